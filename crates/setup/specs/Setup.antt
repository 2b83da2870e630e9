-- Setup: a first row from the sponge, the next two each from the row before, every further row from three rows.
use Rattle.std.specs.Prelude.{ℕ, ◌+◌, ◌-◌}
use Rattle.lists.specs.Loop.{loop}
use Rattle.settings.specs.Settings.{Settings}
use Rattle.setup_order.specs.SetupOrder.{order}
use Rattle.setup_order.specs.declared.Order.{Order}
use Rattle.columns.specs.declared.Rows.{Rows}
use Rattle.columns.specs.Columns.{rows_of, Work, fill_column, copy_column, setup_column}

unfoldable pub fill_row : Settings → ℕ → Work → Work
fill_row S row0 w = loop (fill_column S row0) S.columns w

unfoldable pub copy_row : Settings → ℕ → ℕ → Work → Work
copy_row S prev0 row0 w = loop (copy_column S prev0 row0) S.columns w

unfoldable pub setup_row : Settings → Rows → Work → Work
setup_row S r w = loop (setup_column S r) S.columns w

-- ---- rows are counted from row `own` of the matrix on, and those that are revisited from row `other` on: both are 0 where one sponge
-- fills all rows

-- rows 0 to 2
unfoldable pub first_rows : Settings → ℕ → Work → Work
first_rows S own w = copy_row S (own + 1) (own + 2) (copy_row S own (own + 1) (fill_row S own w))

-- the rows of the step that fills row 3 + k, from the order of that row
abbrev pub rows_with : ℕ → ℕ → ℕ → Order → Rows
rows_with own other k o = rows_of (own + (3 + k)) (other + o.row1) (own + (2 + k)) (other + o.prev1)

-- row 3 + k
unfoldable pub setup_step : Settings → ℕ → ℕ → ℕ → Work → Work
setup_step S own other k = setup_row S (rows_with own other k (order k))

-- n rows from row 3 + k on
unfoldable pub setup_rows : Settings → ℕ → ℕ → ℕ → ℕ → Work → Work
setup_rows S own other k n w = loop (λ d. setup_step S own other (k + d)) n w

unfoldable pub setup : Settings → Work → Work
setup S w = setup_rows S 0 0 0 (S.rows - 3) (first_rows S 0 w)
