-- A byte of each lane before this one has come.
use Rattle.std.proofs.Common.{◌≤◌}
use Rattle.mixer.specs.Mixers.{sum_of}
use Rattle.lanes.specs.LaneLists.{states_of}
use Rattle.lane_keys.proofs.LaneBytes.{Arriving}
use Rattle.lane_keys.proofs.next_of_all.Given as goal

abbrev pub invariant-loop-lane : goal.invariant-loop-lane
invariant-loop-lane l = record {
  few : l.calls ≤ l.lane-index;
  arriving : Arriving (sum_of l.mixer) l.i (states_of l.fn.lanes) (states_of l.lanes) l.lane-index l.byte l.calls;
}
