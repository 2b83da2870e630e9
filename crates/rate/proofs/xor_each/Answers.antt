-- Assumes nothing.
use Rattle.std.proofs.Common.{arith}
use Rattle.std.specs.Int.Bits.{bit_xor}
use Rattle.lists.specs.Zip.{zip_at}
use Rattle.lists.proofs.Placed.{placed_none, placed_again, placed_end}
use Rattle.rate.proofs.xor_each.Goals as goal

pub loop-j-init : goal.loop-j-init
loop-j-init g c = λ words long told. placed_none bit_xor long

pub loop-j-preserved : goal.loop-j-preserved
loop-j-preserved g c = λ words long told. placed_again bit_xor (c.loop-j.invariant words long told) (omega arith) (omega arith) (told c.loop-j.j _ (omega arith) c.word.ensures)

pub returns : goal.returns
unfolding zip_at
returns g c = λ words long told. placed_end bit_xor (c.loop-j.invariant words long told) (omega arith)
