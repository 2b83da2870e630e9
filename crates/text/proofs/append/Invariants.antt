-- The first i bytes of the text are in place.
use Rattle.std.proofs.Common.{length}
use Rattle.lists.proofs.Placed.{Placed}
use Rattle.text.proofs.append.Given as goal

abbrev pub invariant-loop-i : goal.invariant-loop-i
invariant-loop-i l = Placed (λ x y. y) l.at l.fn.out l.text l.out l.i (length l.text)
