-- A test of each element: what it tells of the elements, and the steps of a loop that makes it; and the sameness of lists. Assumes nothing.
use mathlib.Core.Path.{◌≡◌, refl, sym, ap, ap₂, ◌∙◌}
use Prim.Native.Nat.{ℕ, zero, suc, ◌+◌, ◌≤◌, ◌<◌}
use native.Mathlib.Nat.{not-suc-le-zero, le_of_suc-le-suc}
use native.Mathlib.Numerals.{add-one}
use native.Mathlib.Omega.{arith}
use mathlib.Core.Bool.{Bool, true, false, ◌&&◌, false≢true, and-eq-true_iff}
use mathlib.Core.List.{List, [], ◌∷◌, ◌++◌}
use lib.ListN.{length, get_or, drop, drop_of_length-le}
use lib.Seq.{drop-cons}
use lib.Dec.{eqb}
use borrow.Author.Tests.{eqb-true, eq-eqb}
use Rattle.lists.specs.Every.{every, same_bytes}

module _ (p : ℕ → Bool) where
  pub every_at : (xs : List ℕ) → every p xs ≡ true → (i : ℕ) → i < length xs → p (get_or xs i 0) ≡ true
  unfolding every
  every_at [] e i h = absurd (not-suc-le-zero h)
  every_at (x ∷ xs) e zero h = ((and-eq-true_iff (p x) (every p xs)).0 e).0
  every_at (x ∷ xs) e (suc i) h = every_at xs ((and-eq-true_iff (p x) (every p xs)).0 e).1 i (le_of_suc-le-suc h)

  pub every_all : (xs : List ℕ) → ((i : ℕ) → i < length xs → p (get_or xs i 0) ≡ true) → every p xs ≡ true
  unfolding every
  every_all [] h = refl
  every_all (x ∷ xs) h = ap₂ ◌&&◌ (h zero (omega arith)) (every_all xs (λ i l. h (suc i) (omega arith)))

  pub every_append : (xs ys : List ℕ) → every p xs ≡ true → every p ys ≡ true → every p (xs ++ ys) ≡ true
  unfolding every
  every_append [] ys e f = f
  every_append (x ∷ xs) ys e f =
      let both = (and-eq-true_iff (p x) (every p xs)).0 e in ap₂ ◌&&◌ both.0 (every_append xs ys both.1 f)

  -- the first i elements pass, so the others decide
  pub record Passed (xs : List ℕ) (i : ℕ) : Type 0 where
    pub inside : i ≤ length xs
    pub others : every p (drop i xs) ≡ every p xs

  pub passed_none : {xs : List ℕ} → Passed xs 0
  passed_none = record { inside = omega arith; others = refl }

  module _ {xs : List ℕ} {i : ℕ} (q : Passed xs i) where
    here : i < length xs → {b : Bool} → p (get_or xs i 0) ≡ b → (b && every p (drop (suc i) xs)) ≡ every p xs
    unfolding every
    here h e = ap (λ (t : Bool). t && every p (drop (suc i) xs)) (sym e) ∙ ap (every p) (sym (drop-cons xs i 0 h)) ∙ q.others

    pub passed_more : i < length xs → p (get_or xs i 0) ≡ true → Passed xs (i + 1)
    passed_more h e = record { inside = omega arith; others = rw add-one (here h e) }

    pub failed : i < length xs → p (get_or xs i 0) ≡ false → false ≡ every p xs
    failed h e = here h e

    pub passed_end : length xs ≤ i → true ≡ every p xs
    unfolding every
    passed_end h = ap (every p) (sym (drop_of_length-le xs {i = i} h)) ∙ q.others

-- ---- same_bytes is equality

pub same_of_equal : (xs : List ℕ) → same_bytes xs xs ≡ true
unfolding same_bytes
same_of_equal [] = refl
same_of_equal (x ∷ xs) = ap₂ ◌&&◌ (eq-eqb x x refl) (same_of_equal xs)

pub equal_of_same : (xs ys : List ℕ) → same_bytes xs ys ≡ true → xs ≡ ys
unfolding same_bytes
equal_of_same [] [] e = refl
equal_of_same [] (y ∷ ys) e = absurd (false≢true e)
equal_of_same (x ∷ xs) [] e = absurd (false≢true e)
equal_of_same (x ∷ xs) (y ∷ ys) e =
    let h = (and-eq-true_iff (eqb x y) (same_bytes xs ys)).0 e in
    ap₂ (λ (a : ℕ) (l : List ℕ). a ∷ l) (eqb-true x y h.0) (equal_of_same xs ys h.1)
