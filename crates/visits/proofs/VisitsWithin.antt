-- Visits change the used matrix alone. Assumes nothing.
use mathlib.Core.Path.{◌≡◌, refl, ◌∙◌}
use Prim.Native.Nat.{ℕ, ◌*◌, ◌<◌}
use native.Mathlib.Nat.{mod-lt}
use Rattle.lists.specs.Zip.{cleared}
use Rattle.lists.proofs.LoopLaws.{loop_ind}
use Rattle.settings.specs.Settings.{Settings}
use Rattle.columns.specs.Columns.{picks}
use Rattle.columns.proofs.RowLaws.{row_before}
use Rattle.columns.proofs.Within.{within_loop, visit_column_within}
use Rattle.visits.specs.Visits.{Walk, picked_rows, visit_columns, visit, wander}

module _ (S : Settings) (some : 0 < S.rows) where
  abbrev n : ℕ
  n = S.rows * S.columns

  abbrev Within : (Walk → Walk) → Type 0
  Within f = (w : Walk) → cleared (12 * n) (f w).done.matrix ≡ cleared (12 * n) w.done.matrix

  -- picked rows are rows
  visit_within : Within (visit S)
  unfolding visit visit_columns picked_rows
  visit_within w =
      let r = picked_rows S w in
      within_loop n _ S.columns
      (λ col lt v. visit_column_within S n col lt r (row_before _ S.rows S.columns (mod-lt _ some)) (row_before _ S.rows S.columns (mod-lt _ some)) (picks S v.state) v)
      w.done

  pub wander_within : (k : ℕ) → Within (wander S k)
  unfolding wander
  wander_within k = loop_ind (λ i v. visit S v) (λ i. Within) (λ w. refl) k (λ i lt g before w. visit_within (g w) ∙ before w)
