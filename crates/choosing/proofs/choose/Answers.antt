-- A refusal, or the best of the tried shapes with the greatest T. Assumes nothing.
use Rattle.std.proofs.Common.{◌≡◌, ℕ, ◌*◌, ◌≤◌, ◌<◌, ◌^◌, min, sym, ap, subst, ◌∙◌, arith}
use Rattle.settings.specs.declared.Lengths.{Lengths}
use Rattle.refusals.specs.Checks.{Accepted, length_checks, choice_checks}
use Rattle.refusals.proofs.Answered.{answered-yes}
use Rattle.refusals.proofs.Chained.{handed_is, answered_refused}
use Rattle.choice.specs.Choice.{spends, cell_limit, cells, best_of, time_for, answer_for, chosen, no_choice, choice_number, choice_answer, chosen_answer}
use Rattle.choice.specs.declared.Limits.{Limits}
use Rattle.choice.specs.declared.Shape.{Shape}
use Rattle.choice.proofs.ChosenLaws.{best, bounds, best_within, once, turn_bounds}
use Rattle.choosing.proofs.choose.Goals as goal

-- what finding T asks of the shape
abbrev Asked : Lengths → Limits → Shape → Type 0
Asked l g s = Accepted (length_checks l) × (1 ≤ g.rounds * cells s) × (g.rounds * cells s < 2 ^ 64) × (cells s < 2 ^ 64) × (spends l g 1 s ≤ g.budget)

asked : (l : Lengths) (g : Limits) → choice_number l g ≡ 0 → Asked l g (best l g)
unfolding choice_checks
asked l g e =
    let b = bounds l g e in
    let turn = turn_bounds l g e in
    (omega (arith, b), turn.0, omega (arith, turn.1), omega (arith, turn.2), once l g e)

-- the shape that the code found
abbrev shape_is : (l : Lengths) (g : Limits) {limit n : ℕ} {s : Shape} → s ≡ best_of limit n → limit ≡ cell_limit l g → n ≡ min g.tries 256 → s ≡ best l g
shape_is l g e f h = e ∙ (λ i. best_of (f i) (h i))

pub returns-in_err-check_choice : goal.returns-in_err-check_choice
unfolding choice_answer
returns-in_err-check_choice c =
    let e = c.in_err-check_choice.ensures in
    ap chosen_answer (handed_is _ _ c.from_residual.ensures) ∙ ap no_choice e ∙ answered_refused _ e _ _

pub cell_limit-limit-requires : goal.cell_limit-limit-requires
unfolding choice_checks
cell_limit-limit-requires c = let b = bounds c.args.l c.args.g (sym c.in_ok-check_choice.ensures) in omega (arith, b)

pub time_for-time-requires : goal.time_for-time-requires
time_for-time-requires c =
    let a = c.args in
    let s = shape_is a.l a.g c.best-shape.ensures c.cell_limit-limit.ensures c.min.ensures in
    subst (Asked a.l a.g) (sym s) (asked a.l a.g (sym c.in_ok-check_choice.ensures))

pub overflow_mul-result : goal.overflow_mul-result
overflow_mul-result c =
    let a = c.args in
    let s = shape_is a.l a.g c.best-shape.ensures c.cell_limit-limit.ensures c.min.ensures in
    omega (arith, ap cells s, (asked a.l a.g (sym c.in_ok-check_choice.ensures)).3)

pub overflow_sub-result : goal.overflow_sub-result
overflow_sub-result c =
    let a = c.args in
    let s = shape_is a.l a.g c.best-shape.ensures c.cell_limit-limit.ensures c.min.ensures in
    omega (arith, c.cell_limit-limit.ensures, ap cells s, (best_within a.l a.g (sym c.in_ok-check_choice.ensures)).cells_most)

pub returns : goal.returns
unfolding choice_answer chosen
returns c =
    let a = c.args in
    let limit = c.cell_limit-limit.ensures in
    let s = shape_is a.l a.g c.best-shape.ensures limit c.min.ensures in
    let time = c.time_for-time.ensures ∙ ap (time_for a.l a.g) s in
    answered-yes _ _ (sym c.in_ok-check_choice.ensures) (λ i. answer_for (limit i) (time i) (s i))
