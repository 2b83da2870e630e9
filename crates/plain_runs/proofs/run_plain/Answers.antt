-- `run_plain` meets its contract: the run, the last cell, then zeros. Assumes nothing.
use native.Mathlib.Omega.{arith}
use Rattle.refusals.specs.Checks.{cost_checks, plain_checks}
use Rattle.runs.proofs.Ends.{finished, full_with_last, can_finish, cleared_after}
use Rattle.plain_runs.proofs.run_plain.Goals as goal

pub clear_matrix-requires : goal.clear_matrix-requires
unfolding plain_checks cost_checks
clear_matrix-requires c =
    omega (arith, c.run-ran.auto, c.requires)

pub returns : goal.returns
returns c =
    let run = c.run-ran.ensures in
    let last = c.finish-full.ensures in
    record {
      full = full_with_last run last.0;
      reduced = run.reduced;
      state_is = finished run last.1;
      matrix_is = cleared_after run c.requires c.clear_matrix.ensures;
    }

pub finish-full-requires : goal.finish-full-requires
finish-full-requires c = can_finish c.run-ran.ensures c.requires (omega (arith, c.run-ran.auto))
