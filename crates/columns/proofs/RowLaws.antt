-- Where rows lie, in a form that is linear in row · C, their cells by their starts, and the loop over the columns of a row, which every row
-- of Setup makes. Assumes nothing.
use mathlib.Core.Path.{◌≡◌, refl, ap, ◌∙◌}
use mathlib.Core.Logic.{inl, inr}
use Prim.Native.Nat.{ℕ, ◌+◌, ◌-◌, ◌*◌, ◌≤◌, ◌<◌}
use native.Mathlib.Omega.{arith}
use native.Mathlib.Nat.{suc-mul}
use native.Mathlib.Numerals.{add-one}
use mathlib.Core.List.{List}
use lib.ListN.{length}
use Rattle.lists.specs.Loop.{loop}
use Rattle.lists.proofs.LoopLaws.{loop_none, loop_more, loop_end}
use Rattle.places.specs.Places.{place, first_word, cell_start}
use Rattle.places.specs.declared.RowStart.{RowStart}
use Rattle.places.proofs.PlaceLaws.{start-place}
use Rattle.matrix.specs.Cells.{ApartCells}
pub use Rattle.matrix.proofs.Apart.{row_before}
use Rattle.columns.specs.declared.Rows.{Rows}
use Rattle.columns.specs.declared.Starts.{Starts}
use Rattle.columns.specs.Bounds.{starts_of, ApartRows, Within}
use Rattle.columns.specs.Columns.{Work, work}

-- a whole row more
pub row_more : (k C : ℕ) → (k + 1) * C ≡ k * C + C
row_more k C = rw add-one (suc-mul k C)

-- rows below R lie within a matrix of R rows
pub within : (R C n : ℕ) → 12 * (R * C) ≤ n → (r : Rows) → r.row0.0 < R → r.row1.0 < R → r.prev0.0 < R → r.prev1.0 < R → Within C (starts_of C r) n
within R C n room r h0 h1 p0 p1 =
    let row : (a : ℕ) → a < R → 12 * (a * C) + 12 * C ≤ n = λ a h. omega (arith, row_before a R C h) in
    record { row0 = row _ h0; row1 = row _ h1; prev0 = row _ p0; prev1 = row _ p1 }

-- cells of two rows of which one ends before the other begins
pub apart_cells : {C col col' x y : ℕ} {a b : RowStart} → ApartRows C a b → col < C → col' < C → x ≡ cell_start a col → y ≡ cell_start b col' → ApartCells x y
apart_cells (inl before) lt lt' ex ey = inl (omega arith)
apart_cells (inr after) lt lt' ex ey = inr (omega arith)

-- the cells of rows that start there
module _ (C : ℕ) (r : Rows) {a : Starts} (e : a ≡ starts_of C r) (col : ℕ) where
  pub row0_place : cell_start a.row0 col ≡ place C r.row0.0 col
  row0_place = start-place C r.row0.0 a.row0 (ap (λ (x : Starts). first_word x.row0) e) col

  pub row1_place : cell_start a.row1 col ≡ place C r.row1.0 col
  row1_place = start-place C r.row1.0 a.row1 (ap (λ (x : Starts). first_word x.row1) e) col

  pub prev0_place : cell_start a.prev0 col ≡ place C r.prev0.0 col
  prev0_place = start-place C r.prev0.0 a.prev0 (ap (λ (x : Starts). first_word x.prev0) e) col

  pub prev1_place : cell_start a.prev1 col ≡ place C r.prev1.0 col
  prev1_place = start-place C r.prev1.0 a.prev1 (ap (λ (x : Starts). first_word x.prev1) e) col

-- the first col columns of C are done, each a reduced call, from a state and a matrix to others, and `mirror` are left of the row that is
-- filled. The loop knows where rows start and not which rows they are, so it is said of all rows A that may start there
pub record Done {A : Type 0} (f : A → ℕ → Work → Work) (C : ℕ) (s₀ m₀ s m : List ℕ) (calls col mirror : ℕ) : Type 0 where
  pub left : col + mirror ≡ C
  pub counted : calls ≡ col
  pub same : length m ≡ length m₀
  pub is : (x : A) → work s m ≡ loop (f x) col (work s₀ m₀)

module _ {A : Type 0} (f : A → ℕ → Work → Work) where
  pub done_none : (C : ℕ) (s m : List ℕ) → Done f C s m s m 0 0 C
  done_none C s m = record { left = omega arith; counted = refl; same = refl; is = λ x. loop_none (f x) (work s m) }

  module _ {C calls col mirror : ℕ} {s₀ m₀ s m : List ℕ} (d : Done f C s₀ m₀ s m calls col mirror) where
    pub done_again : {s' m' : List ℕ} → col < C → length m' ≡ length m → ((x : A) → work s' m' ≡ f x col (work s m)) → Done f C s₀ m₀ s' m' (calls + 1) (col + 1) (mirror - 1)
    done_again lt l e =
        record { left = omega (arith, d.left); counted = omega (arith, d.counted); same = l ∙ d.same; is = λ x. loop_more (f x) col _ _ _ (d.is x) (e x) }

    pub done_end : C ≤ col → (x : A) → (calls ≡ C) × (work s m ≡ loop (f x) C (work s₀ m₀))
    done_end le x = (omega (arith, d.counted, d.left), loop_end (f x) col C _ _ (d.is x) (omega (arith, d.left)))
