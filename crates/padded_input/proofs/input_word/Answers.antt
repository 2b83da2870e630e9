-- Assumes nothing.
use Rattle.std.proofs.Common.{◌∙◌, arith}
use Rattle.little_endian.proofs.ByteLaws.{loaded_none, loaded_room, loaded_more, loaded_end}
use Rattle.padded_input.specs.Padded.{blocks}
use Rattle.padded_input.proofs.Padded.{length-padded, padded_bytes}
use Rattle.padded_input.proofs.input_word.Goals as goal

pub loop-i-init : goal.loop-i-init
unfolding blocks
loop-i-init c =
    loaded_none (padded_bytes _ _ _ (λ i. omega (arith, c.type_inv.password i)) (λ i. omega (arith, c.type_inv.salt i))) (omega arith)
    (rw length-padded (omega arith))

pub overflow_add-at : goal.overflow_add-at
unfolding blocks
overflow_add-at c = omega arith

pub overflow_mul-v : goal.overflow_mul-v
overflow_mul-v c = omega (arith, loaded_room c.loop-i.invariant (omega arith))

pub overflow_add-v : goal.overflow_add-v
overflow_add-v c = omega (arith, loaded_room c.loop-i.invariant (omega arith), c.from.ensures, c.input_byte.type_inv)

pub loop-i-preserved : goal.loop-i-preserved
loop-i-preserved c = loaded_more c.loop-i.invariant (omega arith) (c.from.ensures ∙ c.input_byte.ensures)

pub returns : goal.returns
returns c = loaded_end c.loop-i.invariant (omega arith)
