-- The first bytes are in place.
use Rattle.std.proofs.Common.{◌-◌}
use Rattle.lists.proofs.Placed.{Placed}
use Rattle.book_writing.proofs.Moving.{moved}
use Rattle.book_writing.proofs.take_out.Given as goal

abbrev pub invariant-loop-moved : goal.invariant-loop-moved
invariant-loop-moved l = Placed (λ x y. y) l.place l.fn.book (moved l.fn.book l.used l.place l.size) l.book l.moved (l.used - l.place)
