use Rattle.std.proofs.Common.{refl, ◌∙◌, arith}
use Rattle.lists.proofs.Placed.{placed_none, placed_again}
use Rattle.little_endian.proofs.ByteLaws.{length_bytes, byte_width}
use Rattle.book_writing.proofs.append_number.Goals as goal

pub loop-i-init : goal.loop-i-init
loop-i-init c = placed_none (λ x y. y) (length_bytes _ _)

pub loop-i-preserved : goal.loop-i-preserved
loop-i-preserved c =
    placed_again (λ x y. y) c.loop-i.invariant (omega arith) refl (c.byte_of.ensures ∙ byte_width 8 _ _ _ (omega arith) (omega arith))
