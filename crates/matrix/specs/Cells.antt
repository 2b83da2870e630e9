-- Cells of a matrix of C columns, what is written to them, and the rotation.
use Rattle.std.specs.Prelude.{ℕ, ◌+◌, ◌%◌, ◌≤◌, ◌⊎◌, List, take, drop, get_or}
use Rattle.std.specs.Int.Bits.{bit_xor}
use Rattle.lists.specs.Zip.{zip_at, tabulate}
use Rattle.profile.specs.Profile.{cell_words}
use Rattle.places.specs.Places.{place}

-- the cell that starts at a word
unfoldable pub cell_from : ℕ → List ℕ → List ℕ
cell_from a m = take cell_words (drop a m)

abbrev pub cell_at : ℕ → ℕ → ℕ → List ℕ → List ℕ
cell_at C row col m = cell_from (place C row col) m

-- the cells that start at two words share no word
abbrev pub ApartCells : ℕ → ℕ → Type 0
ApartCells a b = (a + cell_words ≤ b) ⊎ (b + cell_words ≤ a)

-- a cell overwritten
abbrev pub put_cell : ℕ → ℕ → ℕ → List ℕ → List ℕ → List ℕ
put_cell C row col words m = zip_at (λ x y. y) (place C row col) m words

-- words XORed into a cell
abbrev pub xor_cell : ℕ → ℕ → ℕ → List ℕ → List ℕ → List ℕ
xor_cell C row col words m = zip_at bit_xor (place C row col) m words

-- a cell rotated by ω words, which document 01 names rot
unfoldable pub rotated : ℕ → List ℕ → List ℕ
rotated ω words = tabulate cell_words (λ j. get_or words ((j + ω) % cell_words) 0)
