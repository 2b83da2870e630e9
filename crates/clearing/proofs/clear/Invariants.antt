-- The first j words are in place.
use Rattle.std.proofs.Common.{replicate}
use Rattle.lists.proofs.Placed.{Placed}
use Rattle.clearing.proofs.clear.Given as goal

abbrev pub invariant-loop-j : goal.invariant-loop-j
invariant-loop-j l = Placed (λ x y. y) 0 l.fn.words (replicate l.n 0) l.words l.j l.n
