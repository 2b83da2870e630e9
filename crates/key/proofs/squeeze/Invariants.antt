-- The first i bytes are in place.
use Rattle.std.proofs.Common.{length}
use Rattle.lists.proofs.Placed.{Placed}
use Rattle.mixer.specs.Mixers.{sum_of}
use Rattle.key_bytes.proofs.KeyLaws.{Squeezed}
use Rattle.key.specs.Key.{key_bytes}
use Rattle.key.proofs.squeeze.Given as goal

abbrev pub invariant-loop-i : goal.invariant-loop-i
invariant-loop-i l = record {
  placed : Placed (λ x y. y) 0 l.fn.key (key_bytes (sum_of l.mixer) (length l.fn.key) l.fn.s) l.key l.i (length l.fn.key);
  taken : Squeezed (sum_of l.mixer) l.fn.s l.i l.s l.calls;
}
