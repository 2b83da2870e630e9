-- Each return says whether the byte is the first, and whether it is the last. Assumes nothing.
use Rattle.std.proofs.Common.{arith}
use Rattle.padded_input.proofs.Padded.{padding_is}
use Rattle.padded_input.proofs.padding_byte.Goals as goal

pub returns-then-i-eq0 : goal.returns-then-i-eq0
returns-then-i-eq0 c = padding_is _ _ _ (omega arith) (yes (omega arith)) (yes (omega arith)) (omega arith)

pub returns-then-i-n : goal.returns-then-i-n
returns-then-i-n c = padding_is _ _ _ (omega arith) (no (λ e. omega arith)) (yes (omega arith)) (omega arith)

pub returns-then-i-eq0-2 : goal.returns-then-i-eq0-2
returns-then-i-eq0-2 c = padding_is _ _ _ (omega arith) (yes (omega arith)) (no (λ e. omega arith)) (omega arith)

pub returns : goal.returns
returns c = padding_is _ _ _ (omega arith) (no (λ e. omega arith)) (no (λ e. omega arith)) (omega arith)
