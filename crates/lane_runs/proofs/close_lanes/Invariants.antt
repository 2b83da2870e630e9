-- The lanes before this one have absorbed their last cells.
use Rattle.std.proofs.Common.{◌≡◌}
use Rattle.lists.specs.Loop.{loop}
use Rattle.settings.specs.Settings.{settings}
use Rattle.lanes.specs.LaneLists.{states_of, prevs_of, lanes_of}
use Rattle.lanes_derivation.specs.LanesDerivation.{close_lane}
use Rattle.lane_runs.proofs.close_lanes.Given as goal

abbrev pub invariant-loop-lane : goal.invariant-loop-lane
invariant-loop-lane l = record {
  counted : l.calls ≡ l.lane-index;
  kept : prevs_of l.lanes ≡ prevs_of l.fn.lanes;
  done : states_of l.lanes ≡ loop (close_lane (settings l.p) (lanes_of l.fn.lanes l.m)) l.lane-index (states_of l.fn.lanes);
}
