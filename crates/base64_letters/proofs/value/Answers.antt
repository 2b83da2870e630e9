-- By the law of its sum.
use Rattle.std.proofs.Common.{arith, ap, ◌∙◌}
use Rattle.base64_letters.specs.Letters.{value_of}
use Rattle.base64_letters.proofs.Sums.{value_sum}
use Rattle.base64_letters.proofs.value.Goals as goal

pub returns : goal.returns
returns c =
    rw (
      c.below_top.ensures.0,
      c.below_top-2.ensures.0,
      c.below_top-3.ensures.0,
      c.below_top-4.ensures.0,
      c.below_top-5.ensures.0,
    )
    (value_sum c.from-x.result (omega arith) ∙ ap value_of c.from-x.ensures)
