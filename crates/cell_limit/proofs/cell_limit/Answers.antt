-- The smallest of the three. Assumes nothing.
use Rattle.std.proofs.Common.{◌≡◌, ℕ, ◌-◌, ◌/◌, ◌*◌, min, sym, ap, ◌∙◌, arith}
use Rattle.choice.specs.Choice.{full_spent}
use Rattle.choice.proofs.LimitLaws.{limit_some}
use Rattle.cell_limit.proofs.cell_limit.Goals as goal

pub returns : goal.returns
returns c =
    let a = c.args in
    let g = a.g in
    let full : _ ≡ full_spent a.l = c.full_spent-full.ensures in
    let most = c.min-most.ensures ∙ ap (λ (n : ℕ). min ((g.budget - n) / (2 * g.rounds)) 4194304) full in
    c.min.ensures ∙ ap (λ (n : ℕ). min (g.words / 12) n) most ∙ sym (limit_some a.l g (omega arith))
