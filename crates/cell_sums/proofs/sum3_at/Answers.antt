-- Sum by sum. Assumes nothing.
use Rattle.std.proofs.Common.{refl, arith}
use Rattle.cell_sums.proofs.Sums.{length_sum, sum_at}
use Rattle.cell_sums.proofs.sum3_at.Goals as goal

pub returns : goal.returns
returns c =
    let h = c.requires in
    sum_at 12 _ _ (length_sum 12 _ _ h.0) h.2 _ _ _ (omega arith) (sum_at 12 _ _ h.0 h.1 _ _ _ (omega arith) refl refl) refl
