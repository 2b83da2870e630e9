-- The first j words are in place.
use Rattle.std.proofs.Common.{ℕ}
use Rattle.lists.specs.Zip.{xor_into}
use Rattle.lists.proofs.Placed.{Placed}
use Rattle.matrix.proofs.xored.Given as goal

abbrev pub invariant-loop-j : goal.invariant-loop-j
invariant-loop-j l = Placed (λ (x y : ℕ). y) 0 l.initial.r (xor_into l.cell l.words) l.r l.j 12
