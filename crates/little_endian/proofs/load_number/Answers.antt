-- Assumes nothing.
use Rattle.std.proofs.Common.{◌+◌, ◌-◌, arith}
use Rattle.little_endian.proofs.ByteLaws.{loaded_none, loaded_room, loaded_more, loaded_end}
use Rattle.little_endian.proofs.load_number.Goals as goal

pub loop-i-init : goal.loop-i-init
loop-i-init c = loaded_none (λ i. omega (arith, c.type_inv.bytes i)) c.requires.0 c.requires.1

pub overflow_mul-v : goal.overflow_mul-v
overflow_mul-v c = omega (arith, loaded_room c.loop-i.invariant (omega arith))

pub overflow_add-v : goal.overflow_add-v
overflow_add-v c =
    omega (arith, loaded_room c.loop-i.invariant (omega arith), c.from.ensures, c.loop-i.invariant.all (c.args.at + (c.loop-i.i - 1)))

pub loop-i-preserved : goal.loop-i-preserved
loop-i-preserved c = loaded_more c.loop-i.invariant (omega arith) c.from.ensures

pub returns : goal.returns
returns c = loaded_end c.loop-i.invariant (omega arith)
