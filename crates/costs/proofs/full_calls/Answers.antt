-- The calls of the input and of the key's pieces, which are few. Assumes nothing.
use Rattle.std.proofs.Common.{◌≡◌, arith}
use Rattle.input.specs.Input.{input_blocks}
use Rattle.key.specs.Key.{pieces}
use Rattle.derivation.specs.Cost.{full_cost}
use Rattle.derivation.proofs.Answering.{full_most}
use Rattle.costs.proofs.full_calls.Goals as goal

pub overflow_add-result : goal.overflow_add-result
unfolding full_cost input_blocks
overflow_add-result c =
    let counted : _ ≡ pieces c.args.l.key = c.piece_count.ensures in
    omega (arith, counted, full_most c.args.l c.requires)

pub returns : goal.returns
unfolding full_cost input_blocks
returns c = cc
