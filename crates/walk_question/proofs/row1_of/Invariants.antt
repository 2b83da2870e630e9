-- The order is that of the row reached.
use Rattle.setup_order.proofs.Windows.{Reached}
use Rattle.walk_question.proofs.row1_of.Given as goal

abbrev pub invariant-loop : goal.invariant-loop
invariant-loop l = Reached l.counter l.order
