-- One column of a visit that a lane makes (request 111): row0 is visited, row1 only read, and prev0 is the row that the lane visited before.
use Rattle.std.specs.Prelude.{ℕ, List}
use Rattle.sponge.specs.Sponge.{rand, cell_sum}
use Rattle.settings.specs.Settings.{Settings}
use Rattle.matrix.specs.Cells.{xor_cell}
use Rattle.columns.specs.Columns.{rows_of, Work, work, duplexed, cell_of, picked_by}
use Rattle.columns.specs.declared.Rows.{Rows}

-- there is no prev1, and what stands in its place is not looked at
abbrev pub lane_rows : ℕ → ℕ → ℕ → Rows
lane_rows row0 row1 prev0 = rows_of row0 row1 prev0 prev0

-- what is duplexed, with the column of prev0
unfoldable pub lane_cells : Settings → Rows → ℕ → ℕ → List ℕ → List ℕ
lane_cells S r col col0 m =
    cell_sum (cell_sum (cell_of S r.row0.0 col m) (cell_of S r.prev0.0 col0 m)) (cell_of S r.row1.0 col m)

-- the column of prev0 is picked by the output before the duplex
unfoldable pub lane_column : Settings → Rows → ℕ → Work → Work
lane_column S r col w =
    let s = duplexed S (lane_cells S r col (picked_by S 3 S.columns w.state) w.matrix) w.state in
    work s (xor_cell S.columns r.row0.0 col (rand s) w.matrix)
