-- The first i differ from all behind them.
use Rattle.account_numbers.proofs.Comparing.{Compared}
use Rattle.account_numbers.proofs.all_differ.Given as goal

abbrev pub invariant-loop-i : goal.invariant-loop-i
invariant-loop-i l = Compared l.numbers l.i
