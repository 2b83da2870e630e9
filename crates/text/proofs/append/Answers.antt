use Rattle.std.proofs.Common.{refl, arith}
use Rattle.lists.proofs.Placed.{placed_none, placed_again}
use Rattle.text.proofs.append.Goals as goal

pub loop-i-init : goal.loop-i-init
loop-i-init c = placed_none (λ x y. y) refl

pub loop-i-preserved : goal.loop-i-preserved
loop-i-preserved c = placed_again (λ x y. y) c.loop-i.invariant (omega arith) refl refl
