-- R first. Assumes nothing.
use Rattle.std.proofs.Common.{[], ◌∷◌, sym, arith}
use Rattle.refusals.specs.Checks.{rows_check, walk_checks}
use Rattle.refusals.proofs.Accepted.{accepted}
use Rattle.refusals.proofs.Chained.{handed_on, refused, passed}
use Rattle.refusals.proofs.check_walk.Goals as goal

pub overflow_sub-rows : goal.overflow_sub-rows
overflow_sub-rows c = omega (arith, accepted (rows_check c.args.rows ∷ []) (omega arith) (sym c.in_ok-check_rows.ensures))

pub returns-in_err-check_rows : goal.returns-in_err-check_rows
unfolding walk_checks
returns-in_err-check_rows c = handed_on _ _ c.from_residual.ensures (refused (_ ∷ []) _ c.in_err-check_rows.ensures)

pub returns : goal.returns
unfolding walk_checks
returns c = passed (_ ∷ []) _ (omega arith) c.in_ok-check_rows.ensures c.within.ensures
