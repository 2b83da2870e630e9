-- Of an omega that no derivation has. Assumes nothing.
use Rattle.std.proofs.Common.{ap, ◌∙◌}
use Rattle.std.specs.Int.Bits.{bit_xor}
use Rattle.lists.specs.Zip.{zip_at}
use Rattle.matrix.proofs.CellLaws.{rotated_state}
use Rattle.matrix.proofs.xor_rotated.Goals as goal

pub returns-in_default : goal.returns-in_default
returns-in_default c = c.xor_turned-in_default.ensures ∙ ap (zip_at bit_xor _ _) (rotated_state _ _)
