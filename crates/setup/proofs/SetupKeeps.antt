-- Where Setup's rows lie, in a form that is linear in row · C. Setup keeps the comparison of the cells that it has written: before it
-- that is the state alone, so that what the matrix held drops out, and after it every cell. Assumes nothing.
use mathlib.Core.Path.{◌≡◌, refl, sym, ap, ◌∙◌, subst}
use mathlib.Core.Logic.{◌↔◌, inl, inr}
use Prim.Native.Nat.{ℕ, suc, ◌+◌, ◌-◌, ◌*◌, ◌^◌, ◌≤◌, ◌<◌}
use native.Mathlib.Nat.{suc-mul, add-suc, add-mul, mul-le-mul_right, zero-add}
use native.Mathlib.Decide.{dec_lt}
use native.Mathlib.Omega.{arith}
use Rattle.lists.specs.Loop.{loop}
use Rattle.mixer.specs.Word.{Undoes}
use Rattle.settings.specs.Settings.{Settings}
use Rattle.settings.specs.declared.Parameters.{Parameters}
use Rattle.setup_order.specs.SetupOrder.{order}
use Rattle.setup_order.specs.declared.Order.{Order}
use Rattle.setup_order.proofs.Windows.{row1_lt, row1_behind, prev1_lt}
use Rattle.places.specs.Places.{row_start, start_at}
use Rattle.columns.specs.Bounds.{starts_of, ApartRows, Apart, Within}
use Rattle.columns.specs.Columns.{rows_of, Work, fill_column, copy_column, setup_column}
use Rattle.columns.proofs.RowLaws.{row_before}
use Rattle.columns.proofs.View.{Below, Keeps, keeps_same, keeps_then, keeps_loop}
use Rattle.columns.proofs.ColumnSteps.{RowsBefore, Filled, fill_column_keeps, copy_column_keeps, setup_column_keeps}
use Rattle.setup.specs.Setup.{fill_row, copy_row, setup_row, first_rows, rows_with, setup_step, setup_rows, setup}
use Rattle.setup.specs.Reach.{Reach}

-- the first three rows and the others
pub rows_split : (p : Parameters) → 3 ≤ p.rows
    → (p.rows * p.columns ≡ 3 * p.columns + (p.rows - 3) * p.columns) × ((3 + (p.rows - 3)) * p.columns ≡ p.rows * p.columns)
rows_split p h =
    let whole : 3 + (p.rows - 3) ≡ p.rows = omega arith in
    let e = ap (λ (n : ℕ). n * p.columns) whole in
    (sym e ∙ add-mul 3 (p.rows - 3) p.columns, e)

before : (k : ℕ) → RowsBefore (rows_of (3 + k) (order k).row1 (2 + k) (order k).prev1)
before k = record { row1 = row1_lt k; prev0 = omega arith; prev1 = prev1_lt k }

-- one sponge counts all rows from row 0
pub rows_all : (k : ℕ) (o : Order) → rows_with 0 0 k o ≡ rows_of (3 + k) o.row1 (2 + k) o.prev1
rows_all k o i = rows_of (zero-add (3 + k) i) (zero-add o.row1 i) (zero-add (2 + k) i) (zero-add o.prev1 i)

-- the step that fills row 3 + k
module _ (C own other k words : ℕ) (h : Reach C own other (4 + k) words) where
  reach_within : Within C (starts_of C (rows_with own other k (order k))) words
  reach_within =
      let in_own : (row : ℕ) → row < own + (4 + k) → 12 * (row * C) + 12 * C ≤ words = λ row lt. omega (arith, row_before row (own + (4 + k)) C lt, h.own_room) in
      let in_other : (row : ℕ) → row < other + (4 + k) → 12 * (row * C) + 12 * C ≤ words = λ row lt. omega (arith, row_before row (other + (4 + k)) C lt, h.other_room) in
      record { row0 = in_own _ (omega arith); row1 = in_other _ (omega (arith, row1_lt k)); prev0 = in_own _ (omega arith); prev1 = in_other _ (omega (arith, prev1_lt k)) }

  -- the revisited row is another than one that was filled last or is filled now
  other_row : (row : ℕ) → 2 + k ≤ row → row < 4 + k → ApartRows C (start_at (row_start C (other + (order k).row1))) (start_at (row_start C (own + row)))
  other_row row least lt =
      elim h.apart [
        | inl one ↦ inl (omega (arith, row_before (other + (order k).row1) (own + row) C (omega (arith, row1_behind k))))
        | inr (inl later) ↦ inr (omega (arith, row_before (own + row) (other + (order k).row1) C (omega arith)))
        | inr (inr earlier) ↦ inl (omega (arith, row_before (other + (order k).row1) (own + row) C (omega (arith, row1_lt k))))
      ]

  pub step_reaches : {o : Order} → o ≡ order k → Within C (starts_of C (rows_with own other k o)) words × Apart C (starts_of C (rows_with own other k o))
  step_reaches e = rw e (reach_within, record { row0 = other_row (3 + k) (omega arith) (omega arith); prev0 = other_row (2 + k) (omega arith) (omega arith) })

-- all rows of one sponge
pub reach_all : (C R words : ℕ) → 3 ≤ R → R ≤ 2 ^ 31 → 12 * (R * C) ≤ words → Reach C 0 0 (3 + (0 + (R - 3))) words
reach_all C R words least most room =
    let whole : 0 + (3 + (0 + (R - 3))) ≡ R = omega arith in
    let inside : 12 * ((0 + (3 + (0 + (R - 3)))) * C) ≤ words = rw whole room in
    record { own_fits = omega arith; other_fits = omega arith; own_room = inside; other_room = inside; apart = inl refl }

-- fewer rows
pub reach_fewer : {C own other rows words : ℕ} (few : ℕ) → few ≤ rows → Reach C own other rows words → Reach C own other few words
reach_fewer {C} {own} {other} {rows} few le h =
    record {
      own_fits = omega (arith, h.own_fits);
      other_fits = omega (arith, h.other_fits);
      own_room = omega (arith, h.own_room, mul-le-mul_right C (le-add own));
      other_room = omega (arith, h.other_room, mul-le-mul_right C (le-add other));
      apart = elim h.apart [ inl one ↦ inl one | inr (inl later) ↦ inr (inl (omega arith)) | inr (inr earlier) ↦ inr (inr (omega arith)) ];
    }
  where
    le-add : (a : ℕ) → a + few ≤ a + rows
    le-add a = omega arith

module _ (S : Settings) (u : Undoes S.addition) (n : ℕ) where
  abbrev C : ℕ
  C = S.columns

  -- before the first column of a row the rows before it are filled, after its last one the row too

  row_begins : (row x : ℕ) → Below (row * C) x ↔ Filled C row 0 x
  row_begins row x = (
    λ lt. (omega arith, λ from. omega arith),
    λ h. elim (dec_lt x (row * C)) [ yes lt ↦ lt | no ge ↦ absurd (omega (arith, h.1 (omega arith))) ],
  )

  row_ends : (row next x : ℕ) → next ≡ suc row → Filled C row C x ↔ Below (next * C) x
  row_ends row next x e =
      let ends : next * C ≡ row * C + C = ap (λ (k : ℕ). k * C) e ∙ suc-mul row C in
      (λ h. omega (arith, h.0), λ lt. (omega arith, λ from. omega arith))

  whole_row : (row next : ℕ) → next ≡ suc row → (f : ℕ → Work → Work)
      → ((col : ℕ) → col < C → Keeps n (Filled C row col) (Filled C row (suc col)) (f col))
      → Keeps n (Below (row * C)) (Below (next * C)) (loop f C)
  whole_row row next e f column =
      keeps_then (keeps_same (row_begins row))
      (keeps_then (keeps_loop (Filled C row) f C column) (keeps_same (λ x. row_ends row next x e)))

  copy_row_lem : (prev0 row0 : ℕ) → row0 ≡ suc prev0 → row0 * C + C ≤ n
      → Keeps n (Below (row0 * C)) (Below (suc row0 * C)) (copy_row S prev0 row0)
  unfolding copy_row
  copy_row_lem prev0 row0 e inside =
      whole_row row0 (suc row0) refl (copy_column S prev0 row0)
      (λ col lt. copy_column_keeps S u n prev0 row0 col (row_before prev0 row0 C (omega arith)) inside lt)

  fill_row_lem : 0 * C + C ≤ n → Keeps n (Below (0 * C)) (Below (1 * C)) (fill_row S 0)
  unfolding fill_row
  fill_row_lem inside = whole_row 0 1 refl (fill_column S 0) (λ col lt. fill_column_keeps S u n 0 col inside lt)

  setup-step : (k : ℕ) → (3 + k) * C + C ≤ n → Keeps n (Below ((3 + k) * C)) (Below ((3 + suc k) * C)) (setup_step S 0 0 (0 + k))
  unfolding setup_step setup_row
  setup-step k inside =
      let r = rows_of (3 + k) (order k).row1 (2 + k) (order k).prev1 in
      rw (zero-add k, rows_all k (order k))
      (whole_row (3 + k) (3 + suc k) (add-suc 3 k) (setup_column S r) (λ col lt. setup_column_keeps S u n r col (before k) inside lt))

-- Setup from the state alone to every cell
pub setup_keeps : (S : Settings) → Undoes S.addition → 3 ≤ S.rows
    → Keeps (S.rows * S.columns) (Below (0 * S.columns)) (Below (S.rows * S.columns)) (setup S)
unfolding setup setup_rows first_rows
setup_keeps S u least =
    let R = S.rows in
    let C = S.columns in
    let n = R * C in
    let whole : 3 + (R - 3) ≡ R = omega arith in
    let inside : (row : ℕ) → row < R → row * C + C ≤ n = λ row lt. row_before row R C lt in
    subst (λ (rows : ℕ). Keeps n (Below (0 * C)) (Below (rows * C)) (setup S)) whole
    (keeps_then
    (keeps_then (fill_row_lem S u n (inside 0 (omega arith)))
    (keeps_then (copy_row_lem S u n 0 1 refl (inside 1 (omega arith))) (copy_row_lem S u n 1 2 refl (inside 2 (omega arith)))))
    (keeps_loop (λ k. Below ((3 + k) * C)) _ (R - 3) (λ k lt. setup-step S u n k (inside (3 + k) (omega arith)))))
