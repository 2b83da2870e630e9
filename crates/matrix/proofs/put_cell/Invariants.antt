-- The first j words are in place.
use Rattle.std.proofs.Common.{ℕ}
use Rattle.lists.proofs.Placed.{Placed}
use Rattle.matrix.proofs.put_cell.Given as goal

abbrev pub invariant-loop-j : goal.invariant-loop-j
invariant-loop-j l = Placed (λ (x y : ℕ). y) l.a l.fn.m l.words l.m l.j 12
