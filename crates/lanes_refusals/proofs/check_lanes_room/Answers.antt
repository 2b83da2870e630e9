-- The checks of the cost question, then that of the matrix. Assumes nothing.
use Rattle.std.proofs.Common.{ℕ, [], ◌∷◌, sym, ap, ◌∙◌, arith}
use Rattle.settings.specs.Settings.{usual, settings}
use Rattle.settings.specs.Sizes.{matrix_words}
use Rattle.settings.specs.declared.Parameters.{Parameters}
use Rattle.refusals.specs.Checks.{at_least, matrix_check, first, lanes_cost_checks, lanes_checks}
use Rattle.refusals.proofs.Accepted.{accepted, cells_most}
use Rattle.refusals.proofs.Chained.{handed_on, refused, passed}
use Rattle.lanes_refusals.proofs.check_lanes_room.Goals as goal

pub returns-in_err-check_lanes : goal.returns-in_err-check_lanes
unfolding lanes_checks
returns-in_err-check_lanes c = handed_on _ _ c.from_residual.ensures (refused (lanes_cost_checks _ _ _) _ c.in_err-check_lanes.ensures)

pub matrix_words-words-requires : goal.matrix_words-words-requires
unfolding lanes_cost_checks
matrix_words-words-requires c =
    let p = c.args.p in
    let bounds = accepted (lanes_cost_checks c.args.l p c.args.lanes) (omega arith) (sym c.in_ok-check_lanes.ensures) in
    rw c.usual.ensures (omega (arith, cells_most p.rows p.columns (omega arith) (omega arith)))

pub returns : goal.returns
unfolding lanes_checks lanes_cost_checks
returns c =
    let a = c.args in
    let words = c.matrix_words-words.ensures ∙ ap (λ (q : Parameters). matrix_words (settings q)) c.usual.ensures in
    passed (lanes_cost_checks a.l a.p a.lanes) (matrix_check (usual a.p) a.matrix ∷ []) (omega arith) c.in_ok-check_lanes.ensures
    (c.at_least.ensures ∙ ap (λ (n : ℕ). first (at_least 7 n a.matrix ∷ [])) words)
