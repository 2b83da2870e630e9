-- The first i words are in place.
use Rattle.std.proofs.Common.{ℕ, length}
use Rattle.lists.proofs.Placed.{Placed}
use Rattle.little_endian.specs.Bytes.{le_words}
use Rattle.little_endian.proofs.load_words.Given as goal

abbrev pub invariant-loop-i : goal.invariant-loop-i
invariant-loop-i l = Placed (λ (x y : ℕ). y) 0 l.fn.words (le_words (length l.fn.words) l.bytes) l.words l.i (length l.fn.words)
