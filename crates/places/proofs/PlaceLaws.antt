-- A start is known by its first word, and a cell's place by the start of its row. Assumes nothing.
use mathlib.Core.Path.{◌≡◌}
use Prim.Native.Nat.{ℕ}
use native.Mathlib.Omega.{arith}
use Rattle.places.specs.Places.{place, row_start, first_word, start_at, cell_start}
use Rattle.places.specs.declared.RowStart.{RowStart}

pub start_is : {word : ℕ} {a : RowStart} → first_word a ≡ word → a ≡ start_at word
start_is e i = start_at (e i)

pub start-place : (C row : ℕ) (a : RowStart) → first_word a ≡ row_start C row → (col : ℕ) → cell_start a col ≡ place C row col
start-place C row a e col = omega arith
