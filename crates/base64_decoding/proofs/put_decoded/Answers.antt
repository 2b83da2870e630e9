use Rattle.std.proofs.Common.{sym, ◌∙◌, arith}
use Rattle.lists.specs.Zip.{zip_at}
use Rattle.lists.proofs.Placed.{placed_none, placed_again, placed_end}
use Rattle.base64_encoding.proofs.Elements.{length-decode, get_or-decode}
use Rattle.base64_decoding.proofs.put_decoded.Goals as goal

pub loop-j-init : goal.loop-j-init
loop-j-init c = placed_none (λ x y. y) (length-decode _ ∙ sym c.decoded_length-n.ensures)

pub octet-requires : goal.octet-requires
octet-requires c = omega arith

pub loop-j-preserved : goal.loop-j-preserved
loop-j-preserved c =
    placed_again (λ x y. y) c.loop-j.invariant (omega arith) (omega arith) (c.octet.ensures ∙ sym (get_or-decode _ _ (omega arith)))

pub returns : goal.returns
unfolding zip_at
returns c = placed_end (λ x y. y) c.loop-j.invariant (omega arith)
