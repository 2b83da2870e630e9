use Rattle.std.proofs.Common.{sym, ◌*◌, arith}
use native.Mathlib.Nat.{zero-mul}
use Rattle.lists.proofs.LoopLaws.{loop_none, loop_more}
use Rattle.settings.specs.Settings.{settings}
use Rattle.setup.specs.Setup.{first_rows}
use Rattle.columns.proofs.RowLaws.{row_more}
use Rattle.lanes.specs.LaneSetup.{lane_first_rows}
use Rattle.lanes.proofs.LaneSteps.{works_step}
use Rattle.lane_setup.proofs.first_in_turn.Goals as goal

pub loop-i-init : goal.loop-i-init
loop-i-init c = record { counted = sym (zero-mul _); done = loop_none _ _ }

pub loop-i-preserved : goal.loop-i-preserved
unfolding lane_first_rows
loop-i-preserved c =
    let v = c.loop-i in
    let a = c.args in
    record {
      counted = omega (arith, row_more v.i (3 * a.p.columns));
      done = loop_more _ _ _ _ _ v.invariant.done (works_step v.lanes v.i (first_rows (settings a.p) (v.i * a.rows)) _ v.m _ c.first_rows-calls.ensures.1);
    }
