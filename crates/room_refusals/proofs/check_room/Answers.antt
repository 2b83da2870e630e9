-- The checks of the cost question, then those of ω and of the matrix. Assumes nothing.
use Rattle.std.proofs.Common.{◌≡◌, [], ◌∷◌, sym, ap, ◌∙◌, arith, ◌*◌, ◌≤◌, ℕ}
use Rattle.refusals.specs.Checks.{at_least, rotation_check, matrix_check, first, cost_checks, plain_checks}
use Rattle.refusals.proofs.Accepted.{accepted, cells_most}
use Rattle.refusals.proofs.Chained.{handed_on, refused, passed}
use Rattle.room_refusals.proofs.check_room.Goals as goal

pub returns-in_err-check_costs : goal.returns-in_err-check_costs
unfolding plain_checks
returns-in_err-check_costs c = handed_on _ _ c.from_residual.ensures (refused (cost_checks _ _) _ c.in_err-check_costs.ensures)

pub returns-in_err-within : goal.returns-in_err-within
unfolding plain_checks cost_checks
returns-in_err-within c =
    let a = c.args in
    handed_on _ _ c.from_residual-in_err-within.ensures
    (λ h. passed (cost_checks a.l a.p) _ (omega arith) c.in_ok-check_costs.ensures
    (refused (rotation_check _ ∷ []) (matrix_check a.p a.matrix ∷ []) c.in_err-within.ensures h))

pub matrix_words-requires : goal.matrix_words-requires
unfolding cost_checks
matrix_words-requires c =
    let p = c.args.p in
    let bounds = accepted (cost_checks c.args.l p) (omega arith) (sym c.in_ok-check_costs.ensures) in
    omega (arith, cells_most p.rows p.columns (omega arith) (omega arith))

pub returns : goal.returns
unfolding plain_checks cost_checks
returns c =
    let a = c.args in
    passed (cost_checks a.l a.p) _ (omega arith) c.in_ok-check_costs.ensures
    (passed (rotation_check _ ∷ []) (matrix_check a.p a.matrix ∷ []) (omega arith) c.in_ok-within.ensures
    (c.at_least.ensures ∙ ap (λ (n : ℕ). first (at_least 7 n a.matrix ∷ [])) c.matrix_words.ensures))
