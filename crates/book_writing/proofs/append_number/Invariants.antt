-- The first i bytes are in place.
use Rattle.lists.proofs.Placed.{Placed}
use Rattle.little_endian.specs.Bytes.{le_bytes}
use Rattle.book_writing.proofs.append_number.Given as goal

abbrev pub invariant-loop-i : goal.invariant-loop-i
invariant-loop-i l = Placed (λ x y. y) l.at l.fn.book (le_bytes l.n l.x) l.book l.i l.n
