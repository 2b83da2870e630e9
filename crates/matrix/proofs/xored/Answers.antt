-- Assumes nothing.
use Rattle.std.proofs.Common.{ℕ, sym, ◌∙◌, arith}
use Rattle.std.specs.Int.Bits.{bit_xor}
use Rattle.lists.specs.Zip.{zip_at}
use Rattle.lists.proofs.Placed.{placed_none, placed_again, placed_end}
use Rattle.lists.proofs.ZipLaws.{length_zip, get_or-zip, put_all}
use Rattle.matrix.proofs.xored.Goals as goal

pub loop-j-init : goal.loop-j-init
loop-j-init c = placed_none (λ (x y : ℕ). y) (length_zip bit_xor _ _ ∙ c.requires.0)

pub loop-j-preserved : goal.loop-j-preserved
loop-j-preserved c =
    let h = c.requires in
    placed_again (λ (x y : ℕ). y) c.loop-j.invariant (omega arith) (omega arith) (sym (get_or-zip bit_xor _ _ _ (omega (arith, h.0)) (omega (arith, h.1))))

pub returns : goal.returns
unfolding zip_at
returns c = placed_end (λ (x y : ℕ). y) c.loop-j.invariant (omega arith) ∙ put_all _ _ (length_zip bit_xor _ _ ∙ c.requires.0)
