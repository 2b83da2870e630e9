-- The sum of three cells, and one cell more. Assumes nothing.
use Rattle.std.proofs.Common.{refl, arith}
use Rattle.cell_sums.proofs.Sums.{length_sum, sum_at}
use Rattle.cell_sums.proofs.sum4_at.Goals as goal

pub returns : goal.returns
returns c =
    let h = c.requires in
    sum_at 12 _ _ (length_sum 12 _ _ (length_sum 12 _ _ h.0)) h.3 _ _ _ (omega arith) c.sum3_at.ensures refl
