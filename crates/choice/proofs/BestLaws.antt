-- The best of the tried shapes: it is one of them, none has more cells, and of those with as many it has the fewest columns. Assumes nothing.
use mathlib.Core.Path.{◌≡◌, refl, sym, ap, subst, ◌∙◌}
use mathlib.Core.Bool.{Bool, true, false, cond}
use mathlib.Core.Logic.{◌⊎◌, inl, inr, ⊎_elim}
use Prim.Native.Nat.{ℕ, zero, suc, ◌+◌, ◌*◌, ◌/◌, ◌≤◌, ◌<◌, zero-le, min}
use native.Mathlib.Omega.{arith, by_contra}
use native.Mathlib.Numerals.{add-one}
use native.Mathlib.Nat.{le_trans, le_antisymm, le_of_suc-le-suc, mul-le-mul_right, mul-le-mul, zero-mul, le-min, min-le_left, min-le_right, le-div_iff_mul-le, div-lt_iff_lt-mul}
use lib.Dec.{ltb, leb}
use borrow.Author.Tests.{ltb-true, ltb-false, leb-true, leb-false, lt-ltb, le-ltb}
use Rattle.choice.specs.Choice.{cells, rows_for, shape_for, better, best_of}
use Rattle.choice.specs.Fitting.{Within, Best}
use Rattle.choice.specs.declared.Shape.{Shape}
use Rattle.choice.proofs.GreatestLaws.{greatest-found, greatest_above, greatest_is, greatest_none}

pub cells_least : (s : Shape) → 3 ≤ s.rows → 1 ≤ s.columns → 3 ≤ cells s
cells_least s rows columns = mul-le-mul {n₁ = 3} {m₁ = 1} rows columns

some-cells : {U n : ℕ} {s : Shape} → Within U n s → 0 < cells s
some-cells {s = s} w = omega (arith, cells_least s w.rows_least w.columns_least)

some_rows : (s : Shape) → 0 < cells s → 0 < s.rows
some_rows s h =
    by_contra _ _ (λ none. (let empty : cells s ≡ 0 = ap (λ (r : ℕ). r * s.columns) (le_antisymm (le_of_suc-le-suc none) zero-le) ∙ zero-mul s.columns in omega arith))

-- ---- the better of two

pub better_second : (s t : Shape) → cells s < cells t → better s t ≡ t
unfolding better
better_second s t h = ap (λ (b : Bool). cond b t s) (lt-ltb _ _ h)

pub better-first : (s t : Shape) → cells t ≤ cells s → better s t ≡ s
unfolding better
better-first s t h = ap (λ (b : Bool). cond b t s) (le-ltb _ _ h)

-- ---- with at most U cells

module _ (U : ℕ) where
  -- ---- one column count

  pub tried_within : (C : ℕ) → 1 ≤ C → 0 < rows_for U C → Within U C (shape_for U C)
  unfolding rows_for
  tried_within C h some =
      let found = greatest-found (λ (R : ℕ). R * C) U 3 16382 some in
      record { rows_least = found.0; rows_most = omega (arith, found.1); columns_least = h; columns_most = omega arith; cells_most = found.2 }

  rows_most : (s : Shape) (n : ℕ) → Within U n s → s.rows ≤ rows_for U s.columns
  unfolding rows_for
  rows_most s n w = greatest_above (λ (R : ℕ). R * s.columns) U 3 16382 s.rows (w.rows_least, omega (arith, w.rows_most), w.cells_most)

  pub tried_most : (C : ℕ) (s : Shape) {n : ℕ} → Within U n s → s.columns ≡ C → cells s ≤ cells (shape_for U C)
  tried_most C s {n} w e =
      subst (λ (c : ℕ). cells s ≤ cells (shape_for U c)) e (mul-le-mul_right s.columns (rows_most s n w))

  -- the same as a program finds it, by a division
  module _ (C : ℕ) (h : 1 ≤ C) where
    pub rows_some : 3 ≤ min (U / C) 16384 → min (U / C) 16384 ≡ rows_for U C
    unfolding rows_for
    rows_some some =
        let fits : min (U / C) 16384 * C ≤ U = (le-div_iff_mul-le h).0 (min-le_left _ _) in
        let cut : min (U / C) 16384 ≤ 16384 = min-le_right _ _ in
        greatest_is (λ (R : ℕ). R * C) U 3 16382 _ (omega arith) (some, omega arith, fits)
        (λ y above below. (div-lt_iff_lt-mul h).0
        (by_contra _ _ (λ more. (let least : y ≤ min (U / C) 16384 = le-min (omega arith) (omega arith) in omega arith))))

    pub rows_none : min (U / C) 16384 < 3 → 0 ≡ rows_for U C
    unfolding rows_for
    rows_none few =
        let under : U / C < 3 = by_contra _ _ (λ more. (let least : 3 ≤ min (U / C) 16384 = le-min (omega arith) (omega arith) in omega arith)) in
        greatest_none (λ (R : ℕ). R * C) U 3 16382 (λ y least. (div-lt_iff_lt-mul h).0 (omega arith))

  pub tried-cells_most : (C : ℕ) → 1 ≤ C → cells (shape_for U C) ≤ U
  tried-cells_most C h =
      by_contra _ _ (λ more. (let within = tried_within C h (some_rows (shape_for U C) (omega arith)) in omega (arith, within.cells_most)))

  -- ---- all of them

  fewer : {n : ℕ} {s : Shape} → s.columns ≤ n → Within U (suc n) s → Within U n s
  fewer h w =
      record { rows_least = w.rows_least; rows_most = w.rows_most; columns_least = w.columns_least; columns_most = h; cells_most = w.cells_most }

  more : {m n : ℕ} {s : Shape} → m ≤ n → Within U m s → Within U n s
  more h w =
      record { rows_least = w.rows_least; rows_most = w.rows_most; columns_least = w.columns_least; columns_most = le_trans w.columns_most h; cells_most = w.cells_most }

  -- a shape of at most n + 1 columns has at most n, or is beaten by what is tried for n + 1
  last_or_before : {n : ℕ} (t : Shape) → Within U (suc n) t → Within U n t ⊎ ((t.columns ≡ suc n) × (cells t ≤ cells (shape_for U (suc n))))
  last_or_before {n} t w = go (leb t.columns n) refl
    where
      go : (b : Bool) → leb t.columns n ≡ b → Within U n t ⊎ ((t.columns ≡ suc n) × (cells t ≤ cells (shape_for U (suc n))))
      go true e = inl (fewer (leb-true _ _ e) w)
      go false e =
          let above : n < t.columns = leb-false _ _ e in
          let is : t.columns ≡ suc n = omega (arith, w.columns_most) in
          inr (is, tried_most (suc n) t w is)

  best_second : (n : ℕ) (s : Shape) → Best U n s → cells s < cells (shape_for U (suc n)) → Best U (suc n) (shape_for U (suc n))
  best_second n s best h =
      record {
        most_cells = λ t w. ⊎_elim (λ before. (let k : cells t ≤ cells s = best.most_cells t before in omega arith)) (λ last. last.1) (last_or_before t w);
        fewest_columns = λ t w e. ⊎_elim (λ before. absurd (let k : cells t ≤ cells s = best.most_cells t before in omega arith)) (λ last. omega (arith, last.0)) (last_or_before t w);
        one_of_them = λ some. tried_within (suc n) (omega arith) (some_rows (shape_for U (suc n)) some);
      }

  best_first : (n : ℕ) (s : Shape) → Best U n s → cells (shape_for U (suc n)) ≤ cells s → Best U (suc n) s
  best_first n s best h =
      record {
        most_cells = λ t w. ⊎_elim (λ before. best.most_cells t before) (λ last. le_trans last.1 h) (last_or_before t w);
        fewest_columns =
            λ t w e. ⊎_elim (λ before. best.fewest_columns t before e)
            (λ last. (let some : 0 < cells t = some-cells w in let k : s.columns ≤ n = (best.one_of_them (omega arith)).columns_most in omega (arith, last.0)))
            (last_or_before t w);
        one_of_them = λ some. more (omega arith) (best.one_of_them some);
      }

  pub best_is : (n : ℕ) → Best U n (best_of U n)
  unfolding best_of
  best_is zero =
      record {
        most_cells = λ t w. absurd (omega (arith, w.columns_least, w.columns_most));
        fewest_columns = λ t w e. omega arith;
        one_of_them = λ some. absurd (omega arith);
      }
  best_is (suc n) = go (ltb (cells (best_of U n)) (cells (shape_for U (suc n)))) refl (best_is n)
    where
      go : (b : Bool) → ltb (cells (best_of U n)) (cells (shape_for U (suc n))) ≡ b → Best U n (best_of U n) → Best U (suc n) (better (best_of U n) (shape_for U (suc n)))
      go true e best = let h = ltb-true _ _ e in subst (Best U (suc n)) (sym (better_second _ _ h)) (best_second n _ best h)
      go false e best = let h = ltb-false _ _ e in subst (Best U (suc n)) (sym (better-first _ _ h)) (best_first n _ best h)

  pub best_cells_most : (n : ℕ) → cells (best_of U n) ≤ U
  best_cells_most n =
      by_contra _ _ (λ more. (let within = (best_is n).one_of_them (omega arith) in omega (arith, within.cells_most)))

  -- one more column count, as the loop makes it
  pub best_none : best_of U 0 ≡ record { rows = 0; columns = 0 }
  unfolding best_of
  best_none = refl

  pub best_more : (n : ℕ) → best_of U (n + 1) ≡ better (best_of U n) (shape_for U (n + 1))
  unfolding best_of
  best_more n = rw add-one (refl)
