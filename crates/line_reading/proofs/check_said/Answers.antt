-- The values, then the outputs.
use Rattle.std.proofs.Common.{arith}
use Rattle.refusals.specs.Checks.{stored_checks}
use Rattle.refusals.proofs.Chained.{handed_on, refused, passed}
use Rattle.line_reading.specs.Checks.{said_checks}
use Rattle.line_reading.proofs.check_said.Goals as goal

pub returns-in_err-check_stored : goal.returns-in_err-check_stored
unfolding said_checks
returns-in_err-check_stored c = handed_on _ _ c.from_residual.ensures (refused (stored_checks _ _ _) _ c.in_err-check_stored.ensures)

pub returns : goal.returns
unfolding said_checks stored_checks
returns c = passed (stored_checks _ _ _) _ (omega arith) c.in_ok-check_stored.ensures c.check_outputs.ensures
