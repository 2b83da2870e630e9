-- The letters make the group's number, and a shift is a division.
use Rattle.std.proofs.Common.{arith}
use Rattle.base64_encoding.specs.Base64.{four, octet}
use Rattle.base64_encoding.proofs.Groups.{shift_3}
use Rattle.base64_decoding.proofs.octet.Goals as goal

pub returns : goal.returns
unfolding four octet
returns c = rw (c.value_at.ensures.0, c.value_at-2.ensures.0, c.value_at-3.ensures.0, c.value_at-4.ensures.0) (shift_3 _ _ (omega arith))
