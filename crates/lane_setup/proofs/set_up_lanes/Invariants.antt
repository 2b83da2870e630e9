-- The intervals before this one; past the last row none begins.
use Rattle.std.proofs.Common.{◌≡◌, suc, ◌-◌, ◌*◌, ◌<◌, ◌≤◌, length, min}
use Rattle.lists.specs.Loop.{loop}
use Rattle.settings.specs.Settings.{settings}
use Rattle.setup_order.specs.SetupOrder.{order}
use Rattle.lanes.specs.Meetings.{first_row, rows_in}
use Rattle.lanes.specs.LaneSetup.{setup_in_turn}
use Rattle.lanes.specs.LaneLists.{works_of}
use Rattle.lane_setup.proofs.set_up_lanes.Given as goal

abbrev pub invariant-loop-first : goal.invariant-loop-first
invariant-loop-first l = record {
  few : l.t ≤ l.rows;
  first_is : l.first ≡ min (first_row l.t) l.rows;
  next_is : l.first < l.rows → l.next ≡ first_row (suc l.t);
  order_is : l.order ≡ order (l.first - 3);
  counted : l.calls ≡ length l.fn.lanes * (l.first * l.p.columns);
  done : works_of l.lanes l.m ≡ loop (λ i. setup_in_turn (settings l.p) (length l.fn.lanes) l.rows i (first_row i - 3) (rows_in l.rows i)) l.t (works_of l.initial.lanes l.initial.m);
}

abbrev pub decreases-loop-first : goal.decreases-loop-first
decreases-loop-first l = l.rows - l.first
