-- The lanes before this one had their visits.
use Rattle.std.proofs.Common.{◌≡◌, ◌*◌, length}
use Rattle.lists.specs.Loop.{loop}
use Rattle.settings.specs.Settings.{settings}
use Rattle.lanes.specs.LaneVisits.{step, visits_of}
use Rattle.lanes.specs.LaneLists.{Ready, lanes_of}
use Rattle.lane_wandering.proofs.visits_in_turn.Given as goal

abbrev pub invariant-loop-i : goal.invariant-loop-i
invariant-loop-i l = record {
  counted : l.calls ≡ l.i * (l.count * l.p.columns);
  ready : Ready l.p.columns l.rows (length l.m) l.lanes;
  done : lanes_of l.lanes l.m ≡ loop (step (λ i. visits_of (settings l.p) (length l.fn.lanes) l.rows l.t i l.count)) l.i (lanes_of l.fn.lanes l.fn.m);
}
