-- `set_up` meets its contract: the first three rows, then the others. Assumes nothing.
use mathlib.Core.Path.{◌≡◌, sym, ap, ap₂, ◌∙◌}
use Prim.Native.Nat.{ℕ, ◌+◌, ◌-◌, ◌*◌, ◌^◌, ◌<◌}
use native.Mathlib.Nat.{zero-add}
use native.Mathlib.Omega.{arith}
use Rattle.settings.specs.Settings.{settings}
use Rattle.setup_order.specs.SetupOrder.{order}
use Rattle.setup.specs.Setup.{setup, setup_rows}
use Rattle.setup.proofs.SetupKeeps.{rows_split, reach_all}
use Rattle.setup.proofs.set_up.Goals as goal

pub first_rows-first-requires : goal.first_rows-first-requires
first_rows-first-requires c = omega (arith, rows_split c.args.p (omega arith))

pub setup_rows-rest-requires : goal.setup_rows-rest-requires
unfolding order
setup_rows-rest-requires c =
    let first = c.first_rows-first in
    let start = c in
    (c.first.ensures, reach_all start.args.p.columns start.args.p.rows _ (omega arith) (omega arith) (omega (arith, first.auto.m)))

pub overflow_add-result : goal.overflow_add-result
overflow_add-result c =
    let start = c in
    let p = start.args.p in
    let split = rows_split p start.requires.0 in
    let counted : c.setup_rows-rest.result.calls ≡ (p.rows - 3) * p.columns = c.setup_rows-rest.ensures.1 in
    let fits : 12 * (p.rows * p.columns) < 2 ^ 64 = omega arith in
    omega (arith, split, counted, fits, c.first_rows-first.ensures.0)

pub returns : goal.returns
unfolding setup
returns c =
    let start = c in
    let p = start.args.p in
    let first = c.first_rows-first.ensures in
    let rest = c.setup_rows-rest.ensures in (
      rest.0 ∙ ap order (zero-add _),
      ap₂ (λ (a b : ℕ). a + b) first.0 rest.1 ∙ sym (rows_split p start.requires.0).0,
      rest.2 ∙ ap (setup_rows (settings p) 0 0 0 (p.rows - 3)) first.1,
    )
