-- By the law of its sum.
use Rattle.std.proofs.Common.{arith}
use Rattle.base64_letters.proofs.Sums.{letter_sum}
use Rattle.base64_letters.proofs.letter.Goals as goal

pub returns : goal.returns
returns c = rw (c.step.ensures, c.step-2.ensures, c.step-3.ensures, c.step-4.ensures) (letter_sum _ (omega arith))
