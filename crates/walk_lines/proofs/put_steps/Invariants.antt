-- The lines of the rows before this one are put, and the order is this row's.
use Rattle.setup_order.proofs.Windows.{Reached}
use Rattle.walk_lines.proofs.LineLaws.{Lined}
use Rattle.walk_lines.proofs.put_steps.Given as goal

abbrev pub invariant-loop-row : goal.invariant-loop-row
invariant-loop-row l = record {
  reached : Reached l.row l.order;
  lined : Lined l.fn.out l.out l.row l.at;
}
