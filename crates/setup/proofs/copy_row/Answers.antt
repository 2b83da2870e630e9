-- `copy_row` meets its contract: the loop over the columns. Assumes nothing.
use native.Mathlib.Omega.{arith}
use Rattle.columns.proofs.RowLaws.{done_none, done_again, done_end}
use Rattle.setup.specs.Setup.{copy_row}
use Rattle.setup.proofs.copy_row.Goals as goal

pub copy_column-requires : goal.copy_column-requires
copy_column-requires c =
    let d = c.loop-col.invariant in
    omega (arith, d.left, d.same, c.of-from.ensures, c.of-to.ensures)

pub loop-col-init : goal.loop-col-init
loop-col-init c = done_none _ _ _ _

pub loop-col-preserved : goal.loop-col-preserved
loop-col-preserved c = done_again _ c.loop-col.invariant (omega arith) (search) (λ x. c.copy_column.ensures x.0 x.2 x.1 x.3)

pub returns : goal.returns
unfolding copy_row
returns c = done_end _ c.loop-col.invariant (omega arith) (_, _, c.of-from.ensures, c.of-to.ensures)
