-- `fill_row` meets its contract: the loop over the columns. Assumes nothing.
use native.Mathlib.Omega.{arith}
use Rattle.settings.specs.Settings.{settings}
use Rattle.columns.proofs.RowLaws.{done_none, done_again, done_end}
use Rattle.columns.proofs.ColumnSteps.{fill_column_done}
use Rattle.setup.specs.Setup.{fill_row}
use Rattle.setup.proofs.fill_row.Goals as goal

pub fill_column-requires : goal.fill_column-requires
fill_column-requires c =
    omega (arith, c.loop-mirror.invariant.left, c.loop-mirror.invariant.same, c.of-to.ensures)

pub loop-mirror-preserved : goal.loop-mirror-preserved
loop-mirror-preserved c =
    let v = c.loop-mirror in
    let filled = c.fill_column.ensures in
    done_again _ v.invariant (omega arith) (search)
    (λ x. fill_column_done (settings c.args.p) x.0 v.calls _ _ _ _ _ _ x.1 (omega (arith, v.invariant.left)) filled.0 filled.1)

pub loop-mirror-init : goal.loop-mirror-init
loop-mirror-init c = done_none _ _ _ _

pub returns : goal.returns
unfolding fill_row
returns c = done_end _ c.loop-mirror.invariant (omega (arith, c.loop-mirror.invariant.left)) (_, c.of-to.ensures)
