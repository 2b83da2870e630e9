-- Assumes nothing.
use Rattle.std.proofs.Common.{refl, sym, arith}
use Rattle.std.specs.Int.Bits.{bit_xor}
use Rattle.lists.proofs.Placed.{placed_none, placed_again}
use Rattle.matrix.proofs.CellLaws.{length-rotated, get_or-rotated}
use Rattle.matrix.proofs.xor_turned.Goals as goal

pub loop-j-init : goal.loop-j-init
loop-j-init c = placed_none bit_xor (length-rotated _ _)

pub loop-j-preserved : goal.loop-j-preserved
loop-j-preserved c = placed_again bit_xor c.loop-j.invariant (omega arith) refl (sym (get_or-rotated _ _ _ (omega arith)))
