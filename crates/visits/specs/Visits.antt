-- Wandering: visits of two rows that the output picks, column by column.
use Rattle.std.specs.Prelude.{ℕ, zero, suc, List, [], ◌∷◌, ◌++◌}
use Rattle.lists.specs.Loop.{loop}
use Rattle.settings.specs.Settings.{Settings}
use Rattle.columns.specs.declared.Rows.{Rows}
use Rattle.columns.specs.declared.Picks.{Picks}
use Rattle.columns.specs.Columns.{rows_of, Work, picked_by, picks, visit_column}

-- what stands between visits: the work, and the rows of the visit before
pub record Walk : Type 0 where
  pub done : Work
  pub prev0 : ℕ
  pub prev1 : ℕ

abbrev pub walk : Work → ℕ → ℕ → Walk
walk w prev0 prev1 = record { done = w; prev0 = prev0; prev1 = prev1 }

-- the rows that the next visit picks from the output, with those of the visit before
unfoldable pub picked_rows : Settings → Walk → Rows
picked_rows S w = rows_of (picked_by S 0 S.rows w.done.state) (picked_by S 1 S.rows w.done.state) w.prev0 w.prev1

-- n columns of a visit, each with the picks of the output before it
unfoldable pub visit_columns : Settings → Rows → ℕ → Work → Work
visit_columns S r n w = loop (λ col v. visit_column S r col (picks S v.state) v) n w

unfoldable pub visit : Settings → Walk → Walk
visit S w =
    let r = picked_rows S w in
    walk (visit_columns S r S.columns w.done) r.row0.0 r.row1.0

-- n visits
unfoldable pub wander : Settings → ℕ → Walk → Walk
wander S n w = loop (λ k v. visit S v) n w

-- ---- what a visit picked, as data

pub record Visit : Type 0 where
  pub row0 : ℕ
  pub row1 : ℕ
  pub columns : List Picks

-- the picks of the first n columns
unfoldable pub column_picks : Settings → Rows → ℕ → Work → List Picks
column_picks S r zero w = []
column_picks S r (suc n) w = column_picks S r n w ++ (picks S (visit_columns S r n w).state ∷ [])

unfoldable pub visit_data : Settings → Walk → Visit
visit_data S w =
    let r = picked_rows S w in
    record { row0 = r.row0.0; row1 = r.row1.0; columns = column_picks S r S.columns w.done }

-- the first n visits
unfoldable pub visits : Settings → ℕ → Walk → List Visit
visits S zero w = []
visits S (suc n) w = visits S n w ++ (visit_data S (wander S n w) ∷ [])
