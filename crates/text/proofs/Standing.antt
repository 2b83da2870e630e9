-- What follows from a text that stands at a place, and the library's test of it. Assumes nothing.
use mathlib.Core.Path.{◌≡◌, refl, sym, ap, ap₂, ◌∙◌}
use mathlib.Core.Bool.{true, ◌&&◌}
use Prim.Native.Nat.{ℕ, ◌+◌, ◌-◌, ◌≤◌}
use native.Mathlib.Decide.{ℕ_discrete}
use native.Mathlib.Omega.{arith}
use mathlib.Core.List.{List, [], ◌∷◌, ◌++◌}
use lib.Dec.{eqb}
use lib.ListN.{length, take, drop, length-take, length-drop, take-append-drop}
use lib.Seq.{take_all, drop-drop}
use borrow.Author.Tests.{eq-eqb, ne_eqb}
use Rattle.std.specs.List.{starts_with}
use Rattle.std.specs.Cmp.Lexicographic.{pointwise}
use Rattle.lists.specs.Every.{same_bytes}
use Rattle.lists.proofs.EveryLaws.{equal_of_same}
use Rattle.text.specs.Text.{stands_at}

eqb_sym : (x y : ℕ) → eqb x y ≡ eqb y x
eqb_sym x y =
    elim (ℕ_discrete x y) [
      | yes e ↦ eq-eqb x y e ∙ sym (eq-eqb y x (sym e))
      | no n ↦ ne_eqb x y n ∙ sym (ne_eqb y x (λ e. n (sym e)))
    ]

pointwise_same : (xs ys : List ℕ) → pointwise eqb xs ys ≡ same_bytes ys xs
unfolding same_bytes
pointwise_same [] [] = refl
pointwise_same [] (y ∷ ys) = refl
pointwise_same (x ∷ xs) [] = refl
pointwise_same (x ∷ xs) (y ∷ ys) = ap₂ ◌&&◌ (eqb_sym x y) (pointwise_same xs ys)

-- the library's `starts_with` of the slice from a place on
pub standing : (buffer : List ℕ) (at : ℕ) (text : List ℕ) → starts_with eqb (take (length buffer - at) (drop at buffer)) text ≡ stands_at buffer at text
standing buffer at text =
    ap (λ (l : List ℕ). starts_with eqb l text) (take_all (length buffer - at) (drop at buffer) (omega (arith, length-drop at buffer)))
    ∙ pointwise_same text (take (length text) (drop at buffer))

-- a text that stands is within the list
pub stands_fits : (l : List ℕ) (a : ℕ) (text : List ℕ) → a ≤ length l → stands_at l a text ≡ true → a + length text ≤ length l
stands_fits l a text h e =
    let long = ap length (equal_of_same (take (length text) (drop a l)) text e) in
    omega (arith, length-take (length text) (drop a l), length-drop a l)

-- what is behind it is the rest
pub stands : (l : List ℕ) (at : ℕ) (text : List ℕ) → stands_at l at text ≡ true → drop at l ≡ text ++ drop (at + length text) l
stands l at text e =
    sym (take-append-drop (length text) (drop at l))
    ∙ ap₂ (λ (a b : List ℕ). a ++ b) (equal_of_same (take (length text) (drop at l)) text e) (drop-drop (length text) at l)
