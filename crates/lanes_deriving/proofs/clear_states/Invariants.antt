-- The states before this one are zeros.
use Rattle.std.proofs.Common.{◌≡◌, ℕ, ◌<◌, [], get_or, replicate}
use Rattle.lanes.specs.LaneLists.{states_of}
use Rattle.lanes_deriving.proofs.clear_states.Given as goal

abbrev pub invariant-loop-lane : goal.invariant-loop-lane
invariant-loop-lane l = record {
  same : l.kept ≡ l.number;
  zeros : (i : ℕ) → i < l.lane-index → get_or (states_of l.lanes) i [] ≡ replicate 16 0;
}
