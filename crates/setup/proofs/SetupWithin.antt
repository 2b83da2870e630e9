-- Setup changes the used matrix alone. Assumes nothing.
use mathlib.Core.Path.{◌∙◌}
use Prim.Native.Nat.{ℕ, ◌+◌, ◌-◌, ◌*◌, ◌≤◌, ◌<◌}
use native.Mathlib.Nat.{zero-add}
use native.Mathlib.Omega.{arith}
use Rattle.settings.specs.Settings.{Settings}
use Rattle.setup_order.specs.SetupOrder.{order}
use Rattle.setup_order.proofs.Windows.{row1_lt}
use Rattle.columns.specs.Columns.{rows_of, fill_column, copy_column, setup_column}
use Rattle.columns.proofs.RowLaws.{row_before}
use Rattle.columns.proofs.Within.{ChangesWithin, within_loop, fill_column_within, copy_column_within, setup_column_within}
use Rattle.setup.proofs.SetupKeeps.{rows_all}
use Rattle.setup.specs.Setup.{fill_row, copy_row, setup_row, first_rows, setup_step, setup_rows, setup}

module _ (S : Settings) (least : 3 ≤ S.rows) where
  abbrev n : ℕ
  n = S.rows * S.columns

  inside : (row : ℕ) → row < S.rows → row * S.columns + S.columns ≤ n
  inside row lt = row_before row S.rows S.columns lt

  fill_row_within : ChangesWithin n (fill_row S 0)
  unfolding fill_row
  fill_row_within = within_loop n (fill_column S 0) S.columns (λ col lt. fill_column_within S n col lt 0 (inside 0 (omega arith)))

  copy_row_within : (prev0 row0 : ℕ) → row0 < S.rows → ChangesWithin n (copy_row S prev0 row0)
  unfolding copy_row
  copy_row_within prev0 row0 h =
      within_loop n (copy_column S prev0 row0) S.columns (λ col lt. copy_column_within S n col lt prev0 row0 (inside row0 h))

  setup_row_within : (k : ℕ) → 3 + k < S.rows → ChangesWithin n (setup_step S 0 0 (0 + k))
  unfolding setup_step setup_row
  setup_row_within k h =
      let r = rows_of (3 + k) (order k).row1 (2 + k) (order k).prev1 in
      rw (zero-add k, rows_all k (order k))
      (within_loop n (setup_column S r) S.columns
      (λ col lt. setup_column_within S n col lt r (inside (3 + k) h) (inside _ (omega (arith, row1_lt k)))))

  pub setup_within : ChangesWithin n (setup S)
  unfolding setup setup_rows first_rows
  setup_within w =
      within_loop n _ (S.rows - 3) (λ k lt. setup_row_within k (omega arith)) _
      ∙ copy_row_within 1 2 (omega arith) _ ∙ copy_row_within 0 1 (omega arith) _ ∙ fill_row_within w
