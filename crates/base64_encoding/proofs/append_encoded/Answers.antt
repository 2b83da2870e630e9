use Rattle.std.proofs.Common.{refl, sym, ap, ◌∙◌, arith}
use Rattle.lists.proofs.Placed.{placed_none, placed_again}
use Rattle.base64_letters.specs.Letters.{letter}
use Rattle.base64_encoding.proofs.Elements.{length-encode, get_or-encode, sextet_small}
use Rattle.base64_encoding.proofs.append_encoded.Goals as goal

pub loop-i-init : goal.loop-i-init
loop-i-init c = placed_none (λ x y. y) (length-encode _ ∙ sym c.encoded_length-n.ensures)

pub letter-requires : goal.letter-requires
letter-requires c = rw c.sextet.ensures (sextet_small _ _)

pub loop-i-preserved : goal.loop-i-preserved
loop-i-preserved c =
    placed_again (λ x y. y) c.loop-i.invariant (omega arith) refl
    (c.letter.ensures ∙ ap letter c.sextet.ensures ∙ sym (get_or-encode _ _ (omega arith)))
