-- The visits before this one.
use Rattle.std.proofs.Common.{◌≡◌, ◌*◌, ◌<◌}
use Rattle.settings.specs.Settings.{settings}
use Rattle.lanes.specs.LaneVisits.{visits_of}
use Rattle.lanes.specs.LaneLists.{walk}
use Rattle.lane_visits.proofs.visit_lane.Given as goal

abbrev pub invariant-loop : goal.invariant-loop
invariant-loop l = record {
  counted : l.calls ≡ l.counter * l.p.columns;
  row : l.lane.prev < l.turn.lanes * l.turn.rows;
  done : walk l.lane l.m ≡ visits_of (settings l.p) l.turn.lanes l.turn.rows l.turn.t l.turn.i l.counter (walk l.fn.lane l.fn.m);
}
