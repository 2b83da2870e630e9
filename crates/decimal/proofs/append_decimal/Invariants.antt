-- The first i digits are in place.
use Rattle.lists.proofs.Placed.{Placed}
use Rattle.decimal.specs.Decimal.{decimal}
use Rattle.decimal.proofs.append_decimal.Given as goal

abbrev pub invariant-loop-i : goal.invariant-loop-i
invariant-loop-i l = Placed (λ x y. y) l.at l.fn.out (decimal l.n) l.out l.i l.k
