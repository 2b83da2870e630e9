-- Assumes nothing.
use Rattle.std.proofs.Common.{refl, arith}
use Rattle.std.specs.Int.Bits.{bit_xor}
use Rattle.lists.proofs.Placed.{placed_none, placed_again}
use Rattle.matrix.proofs.xor_cell.Goals as goal

pub loop-j-init : goal.loop-j-init
loop-j-init c = placed_none bit_xor (search)

pub loop-j-preserved : goal.loop-j-preserved
loop-j-preserved c = placed_again bit_xor c.loop-j.invariant (omega arith) refl refl
