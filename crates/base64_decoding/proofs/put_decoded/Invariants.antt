-- The first j bytes are in place.
use Rattle.lists.proofs.Placed.{Placed}
use Rattle.base64_encoding.specs.Base64.{decode}
use Rattle.base64_decoding.proofs.put_decoded.Given as goal

abbrev pub invariant-loop-j : goal.invariant-loop-j
invariant-loop-j l = Placed (λ x y. y) 0 l.fn.out (decode l.text) l.out l.j l.n
