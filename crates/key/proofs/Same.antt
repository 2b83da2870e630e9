-- The comparison of two lists of bytes: the OR of the XORs of their bytes decides it.
-- Assumes nothing.
use mathlib.Core.Path.{◌≡◌, refl, sym, ap, ap₂, ◌∙◌}
use mathlib.Core.Bool.{Bool, true, false, ◌&&◌, and-true, and_assoc}
use Prim.Native.Nat.{ℕ, zero, suc, ◌+◌, ◌≤◌, ◌<◌}
use native.Mathlib.Nat.{not-suc-le-zero, le_of_suc-le-suc}
use native.Mathlib.Omega.{arith}
use native.Mathlib.Numerals.{add-one}
use mathlib.Core.List.{List, [], ◌∷◌}
use lib.ListN.{length, get_or, take}
use lib.Seq.{take_all}
use lib.Dec.{eqb, eqb-suc-zero}
use lib.Bits.{bit_or, bit_xor, or_zero_l, or_add_and, and_le_l, and_le_r, xor_add_and, xor_self}
use borrow.Author.Tests.{eqb-true, eqb-false, eq-eqb, ne_eqb}
use Rattle.key.specs.Key.{same_bytes}

-- ---- a byte more

same_more : (xs ys : List ℕ) (i : ℕ) → i < length xs → i < length ys
    → same_bytes (take (suc i) xs) (take (suc i) ys) ≡ (same_bytes (take i xs) (take i ys) && eqb (get_or xs i 0) (get_or ys i 0))
unfolding same_bytes
same_more [] ys i hx hy = absurd (not-suc-le-zero hx)
same_more (x ∷ xs) [] i hx hy = absurd (not-suc-le-zero hy)
same_more (x ∷ xs) (y ∷ ys) zero hx hy = and-true (eqb x y)
same_more (x ∷ xs) (y ∷ ys) (suc i) hx hy =
    ap (λ (b : Bool). eqb x y && b) (same_more xs ys i (le_of_suc-le-suc hx) (le_of_suc-le-suc hy))
    ∙ sym (and_assoc (eqb x y) (same_bytes (take i xs) (take i ys)) (eqb (get_or xs i 0) (get_or ys i 0)))

-- ---- the bits that differ

xor_decides : (x y : ℕ) (b : Bool) → eqb x y ≡ b → eqb (bit_xor x y) 0 ≡ b
xor_decides x y true e =
    let equal = eqb-true x y e in
    eq-eqb (bit_xor x y) 0 (ap (bit_xor x) (sym equal) ∙ xor_self x)
xor_decides x y false e =
    ne_eqb (bit_xor x y) 0
    (λ z. eqb-false x y e (omega (arith, z, xor_add_and x y, and_le_l x y, and_le_r x y)))

or_decides : (d z : ℕ) → eqb (bit_or d z) 0 ≡ (eqb d 0 && eqb z 0)
or_decides zero z = ap (λ (n : ℕ). eqb n 0) (or_zero_l z)
or_decides (suc d) z =
    ne_eqb (bit_or (suc d) z) 0 (λ e. omega (arith, e, or_add_and (suc d) z, and_le_r (suc d) z))
    ∙ sym (ap (λ (b : Bool). b && eqb z 0) (eqb-suc-zero d))

-- a loop that gathers the bits in which the first i bytes of two lists differ
pub record Differing (xs ys : List ℕ) (i d : ℕ) : Type 0 where
  pub as_long : length ys ≡ length xs
  pub told : eqb d 0 ≡ same_bytes (take i xs) (take i ys)

pub differing_none : {xs ys : List ℕ} → length ys ≡ length xs → Differing xs ys 0 0
unfolding same_bytes
differing_none l = record { as_long = l; told = refl }

pub differing_more_lem : {xs ys : List ℕ} {i d : ℕ} → Differing xs ys i d → i < length xs → {e b : ℕ} → e ≡ bit_or d (bit_xor (get_or xs i 0) b)
    → b ≡ get_or ys i 0 → Differing xs ys (i + 1) e
differing_more_lem {xs} {ys} {i} {d} q h {e} {b} gathered byte =
    record {
      as_long = q.as_long;
      told =
          rw (add-one, gathered, byte)
          (or_decides d (bit_xor (get_or xs i 0) (get_or ys i 0))
          ∙ ap₂ ◌&&◌ q.told (xor_decides (get_or xs i 0) (get_or ys i 0) _ refl)
          ∙ sym (same_more xs ys i h (omega (arith, q.as_long))));
    }

pub differing_end : {xs ys : List ℕ} {i d : ℕ} → Differing xs ys i d → length xs ≤ i → eqb d 0 ≡ same_bytes xs ys
differing_end {xs} {ys} {i} q h =
    q.told ∙ ap₂ same_bytes (take_all i xs h) (take_all i ys (omega (arith, q.as_long)))
