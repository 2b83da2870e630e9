-- By the law of the elements. Assumes nothing.
use Rattle.std.proofs.Common.{sym, arith}
use Rattle.little_endian.proofs.ByteLaws.{get_or-bytes}
use Rattle.little_endian.proofs.byte_of.Goals as goal

pub returns : goal.returns
returns c = sym (get_or-bytes 8 _ _ (omega arith))
