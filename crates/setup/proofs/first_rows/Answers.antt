-- `first_rows` meets its contract: the three rows in their order. Assumes nothing.
use mathlib.Core.Path.{ap, ◌∙◌}
use Prim.Native.Nat.{◌+◌}
use native.Mathlib.Omega.{arith}
use Rattle.settings.specs.Settings.{settings}
use Rattle.columns.proofs.RowLaws.{row_before}
use Rattle.setup.specs.Setup.{copy_row, first_rows}
use Rattle.setup.proofs.first_rows.Goals as goal

pub fill_row-first-requires : goal.fill_row-first-requires
fill_row-first-requires c =
    let a = c.args in
    omega (arith, row_before a.own (a.own + 3) a.p.columns (omega arith))

pub copy_row-second-requires : goal.copy_row-second-requires
copy_row-second-requires c =
    let a = c.args in
    omega (arith, row_before a.own (a.own + 3) a.p.columns (omega arith), row_before (a.own + 1) (a.own + 3) a.p.columns (omega arith))

pub copy_row-third-requires : goal.copy_row-third-requires
copy_row-third-requires c =
    let a = c.args in
    omega (arith, row_before (a.own + 1) (a.own + 3) a.p.columns (omega arith), row_before (a.own + 2) (a.own + 3) a.p.columns (omega arith))

pub returns : goal.returns
unfolding first_rows
returns c =
    let a = c.args in
    let S = settings a.p in
    let first = c.fill_row-first.ensures in
    let second = c.copy_row-second.ensures in
    let third = c.copy_row-third.ensures in
    (omega (arith, first.0, second.0, third.0), third.1 ∙ ap (copy_row S (a.own + 1) (a.own + 2)) (second.1 ∙ ap (copy_row S a.own (a.own + 1)) first.1))
