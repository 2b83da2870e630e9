-- One column of Setup's rows and of a visit. Setup fills a row from its last column down.
use Rattle.std.specs.Prelude.{ℕ, ◌-◌, ◌*◌, ◌%◌, List, get_or}
use Rattle.lists.specs.Zip.{xor_into}
use Rattle.permutation.specs.Round.{rounds}
use Rattle.profile.specs.Profile.{cell_words}
use Rattle.sponge.specs.Sponge.{absorb, rand, cell_sum}
use Rattle.settings.specs.Settings.{Settings}
use Rattle.matrix.specs.Cells.{cell_at, put_cell, xor_cell, rotated}
use Rattle.columns.specs.declared.Rows.{Rows}
use Rattle.columns.specs.declared.Picks.{Picks}

abbrev pub rows_of : ℕ → ℕ → ℕ → ℕ → Rows
rows_of row0 row1 prev0 prev1 = record { row0 = record { 0 = row0 }; row1 = record { 0 = row1 }; prev0 = record { 0 = prev0 }; prev1 = record { 0 = prev1 } }

-- what the walk works on: the sponge's state and the matrix
pub record Work : Type 0 where
  pub state : List ℕ
  pub matrix : List ℕ

abbrev pub work : List ℕ → List ℕ → Work
work s m = record { state = s; matrix = m }

-- words duplexed
abbrev pub duplexed : Settings → List ℕ → List ℕ → List ℕ
duplexed S = absorb S.addition.sum S.rounds

-- the cell of a row and a column
abbrev pub cell_of : Settings → ℕ → ℕ → List ℕ → List ℕ
cell_of S = cell_at S.columns

-- where Setup writes for a column
abbrev pub mirrored : Settings → ℕ → ℕ
mirrored S col = S.columns - 1 - col

-- Setup, a row that is made of the sponge's output alone
unfoldable pub fill_column : Settings → ℕ → ℕ → Work → Work
fill_column S row0 col w =
    work (rounds S.addition.sum S.rounds w.state) (put_cell S.columns row0 (mirrored S col) (rand w.state) w.matrix)

-- Setup, a row that is made of the row before it alone
unfoldable pub copy_column : Settings → ℕ → ℕ → ℕ → Work → Work
copy_column S prev0 row0 col w =
    let cell = cell_of S prev0 col w.matrix in
    let s = duplexed S cell w.state in
    work s (put_cell S.columns row0 (mirrored S col) (xor_into cell (rand s)) w.matrix)

-- Setup, a row from 3 on: what is duplexed, what is then written, and both
unfoldable pub setup_cells : Settings → Rows → ℕ → List ℕ → List ℕ
setup_cells S r col m =
    cell_sum (cell_sum (cell_of S r.row1.0 col m) (cell_of S r.prev0.0 col m)) (cell_of S r.prev1.0 col m)

unfoldable pub setup_written : Settings → Rows → ℕ → List ℕ → List ℕ → List ℕ
setup_written S r col s m =
    xor_cell S.columns r.row1.0 col (rotated S.rotation (rand s))
    (put_cell S.columns r.row0.0 (mirrored S col) (xor_into (cell_of S r.prev0.0 col m) (rand s)) m)

unfoldable pub setup_column : Settings → Rows → ℕ → Work → Work
setup_column S r col w =
    let s = duplexed S (setup_cells S r col w.matrix) w.state in
    work s (setup_written S r col s w.matrix)

-- a number below n, picked by word j·ω of the output
abbrev pub picked_by : Settings → ℕ → ℕ → List ℕ → ℕ
picked_by S j n s = get_or (rand s) (j * S.rotation % cell_words) 0 % n

-- the columns that a visit picks
unfoldable pub picks : Settings → List ℕ → Picks
picks S s = record { col0 = record { 0 = picked_by S 2 S.columns s }; col1 = record { 0 = picked_by S 3 S.columns s } }

-- Wandering, a column of a visit whose picks are given: what is duplexed, what is then written, and both
unfoldable pub visit_cells : Settings → Rows → ℕ → Picks → List ℕ → List ℕ
visit_cells S r col p m =
    cell_sum (cell_sum (cell_sum (cell_of S r.row0.0 col m) (cell_of S r.row1.0 col m)) (cell_of S r.prev0.0 p.col0.0 m))
    (cell_of S r.prev1.0 p.col1.0 m)

unfoldable pub visit_written : Settings → Rows → ℕ → List ℕ → List ℕ → List ℕ
visit_written S r col s m =
    xor_cell S.columns r.row1.0 col (rotated S.rotation (rand s)) (xor_cell S.columns r.row0.0 col (rand s) m)

unfoldable pub visit_column : Settings → Rows → ℕ → Picks → Work → Work
visit_column S r col p w =
    let s = duplexed S (visit_cells S r col p w.matrix) w.state in
    work s (visit_written S r col s w.matrix)
