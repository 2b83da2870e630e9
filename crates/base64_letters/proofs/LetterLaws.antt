-- Letters and their values are each other's inverse. Values and bytes are few, so each rule is one computed test; a byte from 128 on is
-- outside every range. Assumes nothing.
use mathlib.Core.Path.{◌≡◌, refl}
use mathlib.Core.Bool.{Bool, true, cond, not}
use Prim.Native.Nat.{ℕ, ◌≤◌, ◌<◌}
use native.Mathlib.Decide.{dec_le}
use native.Mathlib.Omega.{arith}
use lib.Dec.{ltb, leb, eqb}
use borrow.Author.Tests.{ltb-true, leb-true, eqb-true, eqb-false, not-true, lt-ltb, le-leb, lt-leb, ne_eqb}
use Rattle.base64_letters.specs.Letters.{letter, value_of}
use Rattle.base64_letters.proofs.Table.{at}

-- ---- values to letters and back

pub value_letter : (v : ℕ) → v < 64 → value_of (letter v) ≡ v
unfolding letter value_of
value_letter v h = eqb-true _ _ (at (λ v. eqb (value_of (letter v)) v) 64 refl v h)

pub letter_ascii : (v : ℕ) → v < 64 → letter v < 128
unfolding letter
letter_ascii v h = ltb-true _ _ (at (λ v. ltb (letter v) 128) 64 refl v h)

pub letter-not_dollar : (v : ℕ) → v < 64 → letter v ≡ 36 → ⊥
unfolding letter
letter-not_dollar v h = eqb-false _ _ (not-true _ (at (λ v. not (eqb (letter v) 36)) 64 refl v h))

-- ---- bytes to values and back

high_value : (b : ℕ) → 128 ≤ b → value_of b ≡ 64
unfolding value_of
high_value b h =
    simp (
      le-leb 65 b (omega arith),
      lt-leb b 90 (omega arith),
      le-leb 97 b (omega arith),
      lt-leb b 122 (omega arith),
      le-leb 48 b (omega arith),
      lt-leb b 57 (omega arith),
      ne_eqb b 43 (omega arith),
      ne_eqb b 47 (omega arith),
    )

-- below 64 the value tells the byte
told : ℕ → Bool
told b = cond (ltb (value_of b) 64) (eqb (letter (value_of b)) b) true

pub letter_value : (b : ℕ) → value_of b < 64 → letter (value_of b) ≡ b
unfolding letter value_of told
letter_value b h =
    elim (dec_le 128 b) [
      | yes high ↦ absurd (omega (arith, high_value b high))
      | no low ↦ eqb-true _ _ (simp (lt-ltb _ _ h) at (at told 128 refl b (omega arith)))
    ]

pub value_most : (b : ℕ) → value_of b ≤ 64
unfolding value_of
value_most b =
    elim (dec_le 128 b) [
      | yes high ↦ omega (arith, high_value b high)
      | no low ↦ leb-true _ _ (at (λ b. leb (value_of b) 64) 128 refl b (omega arith))
    ]
