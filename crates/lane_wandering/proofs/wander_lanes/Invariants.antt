-- The intervals before this one.
use Rattle.std.proofs.Common.{◌≡◌, ◌*◌, length, min}
use Rattle.lists.specs.Loop.{loop}
use Rattle.settings.specs.Settings.{settings}
use Rattle.lanes.specs.Meetings.{first_visit, visits_in}
use Rattle.lanes.specs.LaneVisits.{visits_in_turn}
use Rattle.lanes.specs.LaneLists.{Ready, lanes_of}
use Rattle.lane_wandering.proofs.wander_lanes.Given as goal

abbrev pub invariant-loop-t : goal.invariant-loop-t
invariant-loop-t l = record {
  first_is : l.first ≡ min (first_visit l.sqrt l.t) l.visits;
  counted : l.calls ≡ length l.fn.lanes * (l.first * l.p.columns);
  ready : Ready l.p.columns l.rows (length l.m) l.lanes;
  done : lanes_of l.lanes l.m ≡ loop (λ i. visits_in_turn (settings l.p) (length l.fn.lanes) l.rows i (visits_in (settings l.p) l.rows i)) l.t (lanes_of l.fn.lanes l.fn.m);
}
