use Rattle.std.proofs.Common.{suc, arith}
use Rattle.decimal.proofs.Decimal.{decimal_fits}
use Rattle.decimal.proofs.append_short.Goals as goal

pub append_decimal-requires : goal.append_decimal-requires
append_decimal-requires c = omega (arith, decimal_fits 4 (suc c.args.n) c.args.n (omega arith))

pub returns-clause-upper_bound : goal.returns-clause-upper_bound
returns-clause-upper_bound c = omega (arith, c.append_decimal.ensures.next_is, decimal_fits 4 (suc c.args.n) c.args.n (omega arith))
