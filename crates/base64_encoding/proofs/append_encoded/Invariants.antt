-- The first i letters are in place.
use Rattle.lists.proofs.Placed.{Placed}
use Rattle.base64_encoding.specs.Base64.{encode}
use Rattle.base64_encoding.proofs.append_encoded.Given as goal

abbrev pub invariant-loop-i : goal.invariant-loop-i
invariant-loop-i l = Placed (λ x y. y) l.at l.fn.out (encode l.bytes) l.out l.i l.n
