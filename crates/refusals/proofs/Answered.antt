-- The two ways an answer goes, by the number of the refusal. Assumes nothing.
use mathlib.Core.Path.{◌≡◌, refl, sym, ap, ◌∙◌}
use Prim.Native.Nat.{ℕ}
use native.Mathlib.Decide.{ℕ_discrete}
use mathlib.Core.Bool.{Bool, cond}
use borrow.Author.Tests.{eq-eqb, ne_eqb}
use Rattle.refusals.specs.Checks.{answered}

pub answered-yes : {A : Type 0} {n : ℕ} (a b : A) {c : A} → n ≡ 0 → c ≡ a → c ≡ answered n a b
unfolding answered
answered-yes {n = n} a b h e = e ∙ sym (ap (λ (t : Bool). cond t a b) (eq-eqb n 0 h))

-- the code's number is that of the refusal
pub answered_no : {A : Type 0} {n number : ℕ} (a b : A) {c : A} → number ≡ n → (number ≡ 0 → ⊥) → c ≡ b → c ≡ answered n a b
unfolding answered
answered_no {n = n} a b is h e = e ∙ sym (ap (λ (t : Bool). cond t a b) (ne_eqb n 0 (λ z. h (is ∙ z))))

pub answered_is : {A : Type 0} {n : ℕ} (a b : A) {c : A} → n ≡ 0 → c ≡ answered n a b → c ≡ a
answered_is a b h e = e ∙ sym (answered-yes a b h refl)

-- an answer's number is that of the refusal
pub answered_number : {A : Type 0} (number : A → ℕ) (n : ℕ) (a b : A) → number a ≡ 0 → number b ≡ n → number (answered n a b) ≡ n
answered_number number n a b none is = go (ℕ_discrete n 0)
  where
    go : Dec (n ≡ 0) → number (answered n a b) ≡ n
    go (yes z) = ap number (sym (answered-yes a b z refl)) ∙ none ∙ sym z
    go (no h) = ap number (sym (answered_no a b refl h refl)) ∙ is
