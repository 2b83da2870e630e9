-- Assumes nothing.
use Rattle.std.proofs.Common.{ℕ, refl, arith}
use Rattle.lists.proofs.Placed.{placed_none, placed_again}
use Rattle.matrix.proofs.put_cell.Goals as goal

pub loop-j-init : goal.loop-j-init
loop-j-init c = placed_none (λ (x y : ℕ). y) (search)

pub loop-j-preserved : goal.loop-j-preserved
loop-j-preserved c = placed_again (λ (x y : ℕ). y) c.loop-j.invariant (omega arith) refl refl
