use Rattle.std.proofs.Common.{arith}
use Rattle.lists.proofs.LoopLaws.{loop_none, loop_more, loop_end}
use Rattle.lanes.specs.LaneVisits.{visited_row}
use Rattle.lane_visits.proofs.visit_row.Goals as goal

pub loop-col-init : goal.loop-col-init
loop-col-init c = record { counted = omega arith; done = loop_none _ _ }

pub loop-col-preserved : goal.loop-col-preserved
loop-col-preserved c = record {
  counted = omega arith;
  done = loop_more _ _ _ _ _ c.loop-col.invariant.done (c.lane_column.ensures _ c.of-starts.ensures);
}

pub returns : goal.returns
unfolding visited_row
returns c = (omega arith, loop_end _ _ _ _ _ c.loop-col.invariant.done (omega arith))
