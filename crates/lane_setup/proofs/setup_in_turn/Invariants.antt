-- The lanes before this one have the interval's rows, and each left the same order.
use Rattle.std.proofs.Common.{◌≡◌, ◌+◌, ◌*◌, ◌<◌, length}
use Rattle.lists.specs.Loop.{loop}
use Rattle.settings.specs.Settings.{settings}
use Rattle.setup_order.specs.SetupOrder.{order}
use Rattle.lanes.specs.LaneSetup.{lane_setup}
use Rattle.lanes.specs.LaneLists.{works_of}
use Rattle.lane_setup.proofs.setup_in_turn.Given as goal

abbrev pub invariant-loop-i : goal.invariant-loop-i
invariant-loop-i l = record {
  order_is : 0 < l.i → l.order ≡ order (l.k + l.n);
  counted : l.calls ≡ l.i * (l.n * l.p.columns);
  done : works_of l.lanes l.m ≡ loop (lane_setup (settings l.p) (length l.fn.lanes) l.rows l.t l.k l.n) l.i (works_of l.fn.lanes l.fn.m);
}
