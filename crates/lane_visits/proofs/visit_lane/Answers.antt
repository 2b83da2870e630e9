use Rattle.std.proofs.Common.{sym, arith}
use native.Mathlib.Nat.{zero-mul}
use Rattle.lists.proofs.LoopLaws.{loop_none, loop_more}
use Rattle.columns.proofs.RowLaws.{row_more}
use Rattle.lanes.specs.LaneVisits.{visits_of}
use Rattle.lane_visits.proofs.visit_lane.Goals as goal

pub loop-init : goal.loop-init
unfolding visits_of
loop-init c = record { counted = sym (zero-mul _); row = c.requires.1; done = loop_none _ _ }

pub loop-preserved : goal.loop-preserved
unfolding visits_of
loop-preserved c =
    let visited = c.visit-calls.ensures in
    record {
      counted = omega (arith, row_more c.loop.counter c.args.p.columns);
      row = visited.1;
      done = loop_more _ _ _ _ _ c.loop.invariant.done visited.2;
    }
