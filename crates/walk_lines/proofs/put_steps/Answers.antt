use Rattle.std.proofs.Common.{arith}
use Rattle.setup_order.proofs.Windows.{reached_first, reached_next, reached_fits, reached_row1}
use Rattle.walk_lines.proofs.LineLaws.{lined_none, lined_more, lined_end}
use Rattle.walk_lines.proofs.put_steps.Goals as goal

pub loop-row-init : goal.loop-row-init
loop-row-init c = record { reached = reached_first c.first-order.ensures; lined = lined_none }

pub append_line-at-requires : goal.append_line-at-requires
append_line-at-requires c =
    let row1 = reached_row1 c.loop-row.invariant.reached in
    let room = c.loop-row.invariant.lined.room in
    omega arith

pub next-order-requires : goal.next-order-requires
next-order-requires c = reached_fits c.loop-row.invariant.reached (omega arith)

pub loop-row-preserved : goal.loop-row-preserved
loop-row-preserved c =
    let inv = c.loop-row.invariant in
    let more = c.append_line-at.ensures in
    record {
      reached = reached_next inv.reached c.next-order.ensures;
      lined = lined_more inv.lined inv.reached more.appended more.upper_bound;
    }

pub returns : goal.returns
returns c = lined_end c.loop-row.invariant.lined (omega arith)
