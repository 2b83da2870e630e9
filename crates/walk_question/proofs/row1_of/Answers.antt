-- A row more each turn. Assumes nothing.
use Rattle.std.proofs.Common.{ap, ◌∙◌, arith}
use Rattle.setup_order.specs.SetupOrder.{row1_of}
use Rattle.setup_order.proofs.Windows.{reached_first, reached_next, reached_fits, reached_row1}
use Rattle.walk_question.proofs.row1_of.Goals as goal

pub loop-init : goal.loop-init
loop-init c = reached_first c.first-order.ensures

pub next-order-requires : goal.next-order-requires
next-order-requires c = reached_fits c.loop.invariant (omega arith)

pub loop-preserved : goal.loop-preserved
loop-preserved c = reached_next c.loop.invariant c.next-order.ensures

pub returns : goal.returns
returns c = (reached_row1 c.loop.invariant).0 ∙ ap row1_of (omega arith)
