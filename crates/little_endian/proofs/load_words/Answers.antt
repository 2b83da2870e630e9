-- Assumes nothing.
use Rattle.std.proofs.Common.{ℕ, sym, ◌∙◌, arith}
use Rattle.lists.specs.Zip.{zip_at}
use Rattle.lists.proofs.ZipLaws.{put_all}
use Rattle.lists.proofs.Placed.{placed_none, placed_again, placed_end}
use Rattle.little_endian.proofs.ByteLaws.{length-words, get_or-words}
use Rattle.little_endian.proofs.load_words.Goals as goal

pub loop-i-init : goal.loop-i-init
loop-i-init c = placed_none (λ (x y : ℕ). y) (length-words _ _)

pub loop-i-preserved : goal.loop-i-preserved
loop-i-preserved c =
    placed_again (λ (x y : ℕ). y) c.loop-i.invariant (omega arith) (omega arith) (c.load_number.ensures ∙ sym (get_or-words _ _ _ (omega arith)))

pub returns : goal.returns
unfolding zip_at
returns c = placed_end (λ (x y : ℕ). y) c.loop-i.invariant (omega arith) ∙ put_all _ _ (length-words _ _)
