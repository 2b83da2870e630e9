-- The greatest number within a limit: it is one, and none of the range is greater. Assumes nothing.
use mathlib.Core.Path.{◌≡◌, refl, sym, ap, subst}
use mathlib.Core.Bool.{Bool, true, false, cond}
use Prim.Native.Nat.{ℕ, zero, suc, ◌+◌, ◌≤◌, ◌<◌}
use native.Mathlib.Omega.{arith, by_contra}
use native.Mathlib.Nat.{le_antisymm}
use lib.Dec.{leb}
use borrow.Author.Tests.{leb-true, leb-false}
use Rattle.choice.specs.Greatest.{greatest_of}

module _ (f : ℕ → ℕ) (limit least : ℕ) where
  -- one of n numbers from the least on that is within the limit
  abbrev pub Found : ℕ → ℕ → Type 0
  Found n x = (least ≤ x) × (x < least + n) × (f x ≤ limit)

  step-yes : (n : ℕ) → leb (f (least + n)) limit ≡ true → greatest_of f limit least (suc n) ≡ least + n
  unfolding greatest_of
  step-yes n e = ap (λ (b : Bool). cond b (least + n) (greatest_of f limit least n)) e

  step_no : (n : ℕ) → leb (f (least + n)) limit ≡ false → greatest_of f limit least (suc n) ≡ greatest_of f limit least n
  unfolding greatest_of
  step_no n e = ap (λ (b : Bool). cond b (least + n) (greatest_of f limit least n)) e

  pub greatest-found : (n : ℕ) → 0 < greatest_of f limit least n → Found n (greatest_of f limit least n)
  unfolding greatest_of
  greatest-found zero h = absurd (omega arith)
  greatest-found (suc n) h = go (leb (f (least + n)) limit) refl (greatest-found n)
    where
      go : (b : Bool) → leb (f (least + n)) limit ≡ b → (0 < greatest_of f limit least n → Found n (greatest_of f limit least n))
          → Found (suc n) (greatest_of f limit least (suc n))
      go true e before = subst (Found (suc n)) (sym (step-yes n e)) (omega arith, omega arith, leb-true _ _ e)
      go false e before =
          let same : greatest_of f limit least (suc n) ≡ greatest_of f limit least n = step_no n e in
          let found = before (subst (λ (x : ℕ). 0 < x) same h) in
          subst (Found (suc n)) (sym same) (found.0, omega (arith, found.1), found.2)

  pub greatest_above : (n y : ℕ) → Found n y → y ≤ greatest_of f limit least n
  greatest_above zero y h = absurd (omega arith)
  greatest_above (suc n) y h = go (leb (f (least + n)) limit) refl (greatest_above n y)
    where
      go : (b : Bool) → leb (f (least + n)) limit ≡ b → (Found n y → y ≤ greatest_of f limit least n) → y ≤ greatest_of f limit least (suc n)
      go true e before = let same : greatest_of f limit least (suc n) ≡ least + n = step-yes n e in omega arith
      go false e before =
          let same : greatest_of f limit least (suc n) ≡ greatest_of f limit least n = step_no n e in
          let over : limit < f (least + n) = leb-false _ _ e in
          let other : y ≡ least + n → ⊥ = λ q. (let at : f y ≡ f (least + n) = ap f q in omega arith) in
          let earlier : y < least + n = by_contra (suc y) (least + n) (λ more. other (omega arith)) in
          let is : y ≤ greatest_of f limit least n = before (h.0, earlier, h.2) in
          omega arith

  -- as a program finds it: a number within the limit, where those above it exceed that, or none
  pub greatest_is : (n x : ℕ) → 0 < x → Found n x → ((y : ℕ) → x < y → y < least + n → limit < f y) → x ≡ greatest_of f limit least n
  greatest_is n x h found over =
      let above : x ≤ greatest_of f limit least n = greatest_above n x found in
      let is = greatest-found n (omega arith) in
      le_antisymm above (by_contra _ _ (λ more. (let exceeded : limit < f (greatest_of f limit least n) = over _ more is.1 in omega (arith, is.2))))

  pub greatest_none : (n : ℕ) → ((y : ℕ) → least ≤ y → limit < f y) → 0 ≡ greatest_of f limit least n
  greatest_none n over =
      le_antisymm (omega arith) (by_contra _ _ (λ more. (let is = greatest-found n more in let exceeded : limit < f (greatest_of f limit least n) = over _ is.0 in omega (arith, is.2))))
