-- The bytes make the group's number, and a shift is a division.
use Rattle.std.proofs.Common.{arith}
use Rattle.base64_encoding.specs.Base64.{three, sextet}
use Rattle.base64_encoding.proofs.Groups.{shift_4}
use Rattle.base64_encoding.proofs.sextet.Goals as goal

pub returns : goal.returns
unfolding three sextet
returns c = rw (c.byte_at.ensures.0, c.byte_at-2.ensures.0, c.byte_at-3.ensures.0) (shift_4 _ _ (omega arith))
