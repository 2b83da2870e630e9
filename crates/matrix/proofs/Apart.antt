-- Cells by their number: a change of one cell is a change of its twelve words and of no other cell, and the cells are the used matrix.
-- Assumes nothing.
use mathlib.Core.Path.{◌≡◌, ◌∙◌, subst}
use mathlib.Core.Logic.{◌≢◌}
use Prim.Native.Nat.{ℕ, ◌+◌, ◌*◌, ◌≤◌, ◌<◌}
use native.Mathlib.Nat.{suc-mul, mul-le-mul_right}
use native.Mathlib.Decide.{dec_lt}
use native.Mathlib.Omega.{arith}
use mathlib.Core.List.{List}
use lib.ListN.{length, take}
use Rattle.lists.specs.Zip.{zip_into, zip_at}
use Rattle.lists.proofs.Parts.{part_before, part_after, part_at, pieces_same, same_pieces}
use Rattle.lists.proofs.ZipLaws.{put_all}
use Rattle.matrix.specs.Cells.{cell_from}
use Rattle.matrix.proofs.CellLaws.{length_cell}

-- the cell of a number, row · C + column
abbrev pub cell : ℕ → List ℕ → List ℕ
cell q m = cell_from (12 * q) m

-- a row ends where a later one begins or before
pub row_before : (a b C : ℕ) → a < b → a * C + C ≤ b * C
row_before a b C h = subst (λ (n : ℕ). n ≤ b * C) (suc-mul a C) (mul-le-mul_right C h)

module _ (f : ℕ → ℕ → ℕ) (q : ℕ) (m words : List ℕ) (len : length words ≡ 12) where
  pub cell_changed : cell q (zip_at f (12 * q) m words) ≡ zip_into f (cell q m) words
  unfolding cell_from
  cell_changed = part_at f (12 * q) 12 m words (omega arith)

  pub cell_kept : (x : ℕ) → x ≢ q → cell x (zip_at f (12 * q) m words) ≡ cell x m
  unfolding cell_from
  cell_kept x other =
      elim (dec_lt x q) [
        | yes lt ↦ part_before f (12 * q) (12 * x) 12 m words (omega arith)
        | no ge ↦ part_after f (12 * q) (12 * x) 12 m words (omega arith)
      ]

-- an overwritten cell is what was written
pub cell_put : (n q : ℕ) (m words : List ℕ) → 12 * n ≤ length m → q < n → length words ≡ 12 → cell q (zip_at (λ x y. y) (12 * q) m words) ≡ words
cell_put n q m words fits lt len =
    cell_changed (λ x y. y) q m words len
    ∙ put_all (cell q m) words (len ∙ omega (arith, length_cell (12 * q) m (omega arith)))

-- the first n cells are the same exactly where their words are
module _ (n : ℕ) (l m : List ℕ) where
  pub cells-words : ((q : ℕ) → q < n → cell q l ≡ cell q m) → take (12 * n) l ≡ take (12 * n) m
  unfolding cell_from
  cells-words = pieces_same 12 n l m

  pub words-cells : take (12 * n) l ≡ take (12 * n) m → (q : ℕ) → q < n → cell q l ≡ cell q m
  unfolding cell_from
  words-cells = same_pieces 12 n l m
