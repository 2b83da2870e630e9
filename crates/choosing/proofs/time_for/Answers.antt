-- The division, less Setup's turn, cut at the greatest T. Assumes nothing.
use Rattle.std.proofs.Common.{ℕ, ◌-◌, ◌/◌, ◌*◌, min, ap, ◌∙◌, arith}
use Rattle.choice.specs.Choice.{cells}
use Rattle.choice.proofs.TimeLaws.{spends_is, two_turns, time_is}
use Rattle.choosing.proofs.time_for.Goals as goal

pub overflow_sub-visits : goal.overflow_sub-visits
overflow_sub-visits c =
    let a = c.args in
    omega (arith, c.full_spent.ensures, spends_is a.l a.g 1 a.s, c.requires.4)

pub overflow_sub-visits-2 : goal.overflow_sub-visits-2
overflow_sub-visits-2 c =
    let a = c.args in
    let turns = ap (λ (n : ℕ). (a.g.budget - n) / (a.g.rounds * cells a.s)) c.full_spent.ensures in
    omega (arith, turns, two_turns a.l a.g a.s c.requires.1 c.requires.4)

pub returns : goal.returns
returns c =
    let a = c.args in
    c.min.ensures ∙ ap (λ (n : ℕ). min ((a.g.budget - n) / (a.g.rounds * cells a.s) - 1) 255) c.full_spent.ensures
    ∙ time_is a.l a.g a.s c.requires.1 c.requires.4
