-- What the code of a column asks of the rows that it works on, by their starts.
use Rattle.std.specs.Prelude.{◌≡◌, ◌⊎◌, ℕ, ◌≤◌, ◌<◌, List}
use Rattle.settings.specs.Settings.{Settings}
use Rattle.places.specs.Places.{row_start, first_word, start_at, cell_start}
use Rattle.places.specs.declared.Row.{Row}
use Rattle.places.specs.declared.RowStart.{RowStart}
use Rattle.columns.specs.Columns.{picks}
use Rattle.columns.specs.declared.Rows.{Rows}
use Rattle.columns.specs.declared.Starts.{Starts}
use Rattle.columns.specs.declared.Picks.{Picks}

-- the starts of the rows of a step
abbrev pub starts_of : ℕ → Rows → Starts
starts_of C r =
    let at : Row → RowStart = λ row. start_at (row_start C row.0) in
    record { row0 = at r.row0; row1 = at r.row1; prev0 = at r.prev0; prev1 = at r.prev1 }

-- what holds of the rows that start there, said without their numbers
abbrev pub AtRows : ℕ → Starts → (Rows → Type 0) → Type 0
AtRows C a P = (r : Rows) → a ≡ starts_of C r → P r

-- all four rows end within n words
pub record Within (C : ℕ) (a : Starts) (n : ℕ) : Type 0 where
  pub row0 : cell_start a.row0 C ≤ n
  pub row1 : cell_start a.row1 C ≤ n
  pub prev0 : cell_start a.prev0 C ≤ n
  pub prev1 : cell_start a.prev1 C ≤ n

-- one of two rows ends before the other begins
abbrev pub ApartRows : ℕ → RowStart → RowStart → Type 0
ApartRows C a b = (cell_start a C ≤ first_word b) ⊎ (cell_start b C ≤ first_word a)

-- the revisited row is neither the row that is filled nor the one that was filled last, as in Setup
pub record Apart (C : ℕ) (a : Starts) : Type 0 where
  pub row0 : ApartRows C a.row1 a.row0
  pub prev0 : ApartRows C a.row1 a.prev0

-- what the output of a state picks, which is two columns
pub record Picked (S : Settings) (s : List ℕ) (p : Picks) : Type 0 where
  pub is : p ≡ picks S s
  pub col0 : p.col0.0 < S.columns
  pub col1 : p.col1.0 < S.columns
