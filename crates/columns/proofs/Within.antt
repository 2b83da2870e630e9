-- What a step changes of the matrix lies in its first n cells: cleared of these, it is the same before the step and after it. A column
-- of Setup and of a visit is such a step, whatever the state and the words are. Assumes nothing.
use mathlib.Core.Path.{◌≡◌, refl, ◌∙◌}
use Prim.Native.Nat.{ℕ, ◌+◌, ◌-◌, ◌*◌, ◌≤◌, ◌<◌}
use native.Mathlib.Omega.{arith}
use mathlib.Core.List.{List}
use lib.ListN.{length}
use lib.Bits.{bit_xor}
use Rattle.lists.specs.Zip.{zip_at, cleared}
use Rattle.lists.specs.Loop.{loop}
use Rattle.lists.proofs.Cleared.{cleared-zip_at}
use Rattle.lists.proofs.LoopLaws.{loop_ind}
use Rattle.sponge.specs.Sponge.{rand}
use Rattle.sponge.proofs.Output.{length-rand}
use Rattle.settings.specs.Settings.{Settings}
use Rattle.matrix.specs.Cells.{rotated}
use Rattle.matrix.proofs.CellLaws.{length-rotated, length-xored}
use Rattle.columns.specs.Columns.{Work, fill_column, copy_column, setup_written, setup_column, visit_written, visit_column}
use Rattle.columns.specs.declared.Rows.{Rows}
use Rattle.columns.specs.declared.Picks.{Picks}

abbrev pub ChangesWithin : ℕ → (Work → Work) → Type 0
ChangesWithin n f = (w : Work) → cleared (12 * n) (f w).matrix ≡ cleared (12 * n) w.matrix

pub within_loop : (n : ℕ) (f : ℕ → Work → Work) (k : ℕ) → ((i : ℕ) → i < k → ChangesWithin n (f i)) → ChangesWithin n (loop f k)
within_loop n f k step = loop_ind f (λ i. ChangesWithin n) (λ w. refl) k (λ i lt g before w. step i lt (g w) ∙ before w)

-- a cell's words changed
cell_within : (f : ℕ → ℕ → ℕ) (n q : ℕ) (m words : List ℕ) → q < n → length words ≤ 12
    → cleared (12 * n) (zip_at f (12 * q) m words) ≡ cleared (12 * n) m
cell_within f n q m words lt len = cleared-zip_at f (12 * n) (12 * q) m words (omega arith)

module _ (S : Settings) (n col : ℕ) (lt : col < S.columns) where
  abbrev C : ℕ
  C = S.columns

  pub fill_column_within : (row0 : ℕ) → row0 * C + C ≤ n → ChangesWithin n (fill_column S row0 col)
  unfolding fill_column
  fill_column_within row0 inside w =
      cell_within (λ x y. y) n (row0 * C + (C - 1 - col)) w.matrix (rand w.state) (omega arith) (omega (arith, length-rand w.state))

  pub copy_column_within : (prev0 row0 : ℕ) → row0 * C + C ≤ n → ChangesWithin n (copy_column S prev0 row0 col)
  unfolding copy_column
  copy_column_within prev0 row0 inside w =
      cell_within (λ x y. y) n (row0 * C + (C - 1 - col)) w.matrix _ (omega arith) (length-xored _ w.matrix _)

  -- the output and its rotation, XORed into the cell of a row
  module _ (row : ℕ) (inside : row * C + C ≤ n) (m s : List ℕ) where
    pub output_within : cleared (12 * n) (zip_at bit_xor (12 * (row * C + col)) m (rand s)) ≡ cleared (12 * n) m
    output_within = cell_within bit_xor n (row * C + col) m (rand s) (omega arith) (omega (arith, length-rand s))

    rotated_within : cleared (12 * n) (zip_at bit_xor (12 * (row * C + col)) m (rotated S.rotation (rand s))) ≡ cleared (12 * n) m
    rotated_within =
        cell_within bit_xor n (row * C + col) m (rotated S.rotation (rand s)) (omega arith) (omega (arith, length-rotated S.rotation (rand s)))

  module _ (r : Rows) (inside0 : r.row0.0 * C + C ≤ n) (inside1 : r.row1.0 * C + C ≤ n) where
    pub setup_column_within : ChangesWithin n (setup_column S r col)
    unfolding setup_column setup_written
    setup_column_within w =
        rotated_within r.row1.0 inside1 _ _
        ∙ cell_within (λ x y. y) n (r.row0.0 * C + (C - 1 - col)) w.matrix _ (omega arith) (length-xored _ w.matrix _)

    pub visit_column_within : (p : Picks) → ChangesWithin n (visit_column S r col p)
    unfolding visit_column visit_written
    visit_column_within p w = rotated_within r.row1.0 inside1 _ _ ∙ output_within r.row0.0 inside0 w.matrix _
