use Rattle.std.proofs.Common.{refl, sym, suc, arith}
use Rattle.lists.proofs.Placed.{placed_none, placed_again}
use Rattle.decimal.proofs.Decimal.{decimal_fits, digit_is}
use Rattle.decimal.proofs.append_decimal.Goals as goal

pub loop-i-init : goal.loop-i-init
loop-i-init c = placed_none (λ x y. y) (sym c.decimal_length-k.ensures)

pub digit-requires : goal.digit-requires
digit-requires c = omega (arith, decimal_fits 4 (suc c.args.n) c.args.n (omega arith))

pub loop-i-preserved : goal.loop-i-preserved
loop-i-preserved c =
    let inv = c.loop-i.invariant in
    placed_again (λ x y. y) inv (omega arith) refl (digit_is c.args.n inv.whole (omega arith) c.digit.ensures)
