-- The words of the lent matrix where rows and cells start.
use Rattle.std.specs.Prelude.{◌≡◌, ℕ, ◌+◌, ◌*◌}
use Rattle.profile.specs.Profile.{cell_words}
use Rattle.places.specs.declared.RowStart.{RowStart}

-- the first word of a cell in a matrix of C columns
abbrev pub place : ℕ → ℕ → ℕ → ℕ
place C row col = cell_words * (row * C + col)

-- ---- what the code finds once for all cells of a row

-- the first word of a row
abbrev pub row_start : ℕ → ℕ → ℕ
row_start C row = cell_words * (row * C)

abbrev pub first_word : RowStart → ℕ
first_word a = a.0

abbrev pub start_at : ℕ → RowStart
start_at word = record { 0 = word }

-- the first word of the cell in a column of the row that starts there
abbrev pub cell_start : RowStart → ℕ → ℕ
cell_start a col = first_word a + cell_words * col

-- what holds of the row that starts there, said without its number
abbrev pub AtRow : ℕ → RowStart → (ℕ → Type 0) → Type 0
AtRow C a P = (row : ℕ) → first_word a ≡ row_start C row → P row
