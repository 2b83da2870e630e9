-- The first i bytes are in place, and no bit differs exactly where those of a stored key that is as long are the same.
use Rattle.std.proofs.Common.{◌≡◌, length}
use Rattle.lists.proofs.Placed.{Placed}
use Rattle.mixer.specs.Mixers.{sum_of}
use Rattle.key.proofs.Same.{Differing}
use Rattle.lanes.specs.LaneLists.{states_of}
use Rattle.lane_keys.specs.LaneKeys.{keys_xored}
use Rattle.lane_keys.proofs.LaneBytes.{AllSqueezed}
use Rattle.lane_keys.proofs.take_key.Given as goal

abbrev pub invariant-loop-i : goal.invariant-loop-i
invariant-loop-i l =
    let whole = keys_xored (sum_of l.mixer) (length l.fn.lanes) l.bytes (states_of l.fn.lanes) in
    record {
      placed : Placed (λ x y. y) 0 l.fn.key whole l.key l.i l.bytes;
      compared : length l.stored ≡ l.bytes → Differing l.stored whole l.i l.difference;
      taken : AllSqueezed (sum_of l.mixer) (length l.fn.lanes) (states_of l.fn.lanes) l.i (states_of l.lanes) l.calls;
    }
