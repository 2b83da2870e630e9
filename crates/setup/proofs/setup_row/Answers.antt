-- `setup_row` meets its contract: the loop over the columns. Assumes nothing.
use native.Mathlib.Omega.{arith}
use Rattle.columns.proofs.RowLaws.{done_none, done_again, done_end}
use Rattle.setup.specs.Setup.{setup_row}
use Rattle.setup.proofs.setup_row.Goals as goal

pub setup_column-requires : goal.setup_column-requires
setup_column-requires c =
    let d = c.loop-col.invariant in
    let starts = c.of-starts.ensures in
    let pre = c.requires in
    (omega arith, omega (arith, d.left), rw (starts, d.same) pre.0, rw starts pre.1)

pub loop-col-init : goal.loop-col-init
loop-col-init c = done_none _ _ _ _

pub loop-col-preserved : goal.loop-col-preserved
loop-col-preserved c = done_again _ c.loop-col.invariant (omega arith) (search) (λ x. c.setup_column.ensures x.0 x.1)

pub returns : goal.returns
unfolding setup_row
returns c = done_end _ c.loop-col.invariant (omega arith) (_, c.of-starts.ensures)
