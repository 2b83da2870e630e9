-- No bit differs exactly where the first i bytes are the same.
use Rattle.std.proofs.Common.{length}
use Rattle.mixer.specs.Mixers.{sum_of}
use Rattle.key_bytes.proofs.KeyLaws.{Squeezed}
use Rattle.key.specs.Key.{key_bytes}
use Rattle.key.proofs.Same.{Differing}
use Rattle.key.proofs.compare.Given as goal

abbrev pub invariant-loop-i : goal.invariant-loop-i
invariant-loop-i l = record {
  differing : Differing l.stored (key_bytes (sum_of l.mixer) (length l.stored) l.fn.s) l.i l.difference;
  taken : Squeezed (sum_of l.mixer) l.fn.s l.i l.s l.calls;
}
