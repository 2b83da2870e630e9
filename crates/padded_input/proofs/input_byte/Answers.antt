-- Each return gives a byte of one part of the padded input. Assumes nothing.
use Rattle.std.proofs.Common.{◌∙◌, arith}
use Rattle.padded_input.proofs.Padded.{password_at, salt_at, number_at_lem, padding_at}
use Rattle.padded_input.proofs.input_byte.Goals as goal

pub returns-then-i-password : goal.returns-then-i-password
returns-then-i-password c = password_at _ _ _ _ (omega arith)

pub returns-then-j-salt : goal.returns-then-j-salt
returns-then-j-salt c = salt_at _ _ _ _ _ (omega arith) (omega arith)

pub returns-then-k-n : goal.returns-then-k-n
returns-then-k-n c = c.byte_of.ensures ∙ number_at_lem _ _ _ _ _ _ (omega arith) (omega arith) (omega arith)

pub returns : goal.returns
returns c = c.padding_byte.ensures ∙ padding_at _ _ _ _ _ _ (omega arith) (omega arith)
