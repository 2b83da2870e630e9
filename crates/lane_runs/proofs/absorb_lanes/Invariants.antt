-- The lanes before this one have absorbed their inputs.
use Rattle.std.proofs.Common.{◌≡◌, ◌*◌, length}
use Rattle.lists.specs.Loop.{loop}
use Rattle.settings.specs.Settings.{settings}
use Rattle.input.specs.Input.{input, lengths}
use Rattle.lanes.specs.LaneLists.{states_of}
use Rattle.lanes_derivation.specs.LanesCosts.{lane_blocks}
use Rattle.lanes_derivation.specs.LanesDerivation.{absorb_lane}
use Rattle.lane_runs.proofs.absorb_lanes.Given as goal

abbrev pub invariant-loop-i : goal.invariant-loop-i
invariant-loop-i l =
    let x = input l.password l.salt l.key_length in
    record {
      counted : l.calls ≡ l.i * lane_blocks (lengths x);
      done : states_of l.lanes ≡ loop (absorb_lane (settings l.p) (length l.fn.lanes) x) l.i (states_of l.fn.lanes);
    }
