-- Laws of words: an XOR is undone by the same XOR, a turn by the turn that completes it to 64 bits, a plain sum by a difference.
-- Assumes nothing.
use Rattle.std.proofs.Common.{◌≡◌, ℕ, zero, suc, ◌+◌, ◌-◌, ◌*◌, ◌/◌, ◌%◌, ◌^◌, ◌<◌, sym, refl, ap, ◌∙◌, subst, ap₂, add-zero, mod-lt, add_comm, div-add-mod', arith, pow_pos, pow-add, shr_lt}
use Rattle.std.proofs.Common.{w64}
use Rattle.std.proofs.Math.Nat.{mod-eq_of_lt}
use Rattle.std.specs.Int.{rotate_right}
use native.Mathlib.Nat.{mul-mod_left}
use lib.Arith.{bin_ind, digits_lt}
use lib.Pow.{mod-pow-add, shl-shr, high, low, split}
use lib.Bits.{bit_xor, bit_or, xor_shr, xor_mod, xor_zero_r, xor_self, or_shifted_r}
use Rattle.mixer.specs.Word.{turn_right, Undoes, plain}

-- ---- XOR

-- the digits of one place
digit_assoc : (x y z : ℕ) → x < 2 → y < 2 → z < 2 → bit_xor (bit_xor x y) z ≡ bit_xor x (bit_xor y z)
digit_assoc zero y z hx hy hz = refl
digit_assoc (suc zero) zero z hx hy hz = refl
digit_assoc (suc zero) (suc zero) zero hx hy hz = refl
digit_assoc (suc zero) (suc zero) (suc zero) hx hy hz = refl
digit_assoc (suc zero) (suc zero) (suc (suc z)) hx hy hz = absurd (omega arith)
digit_assoc (suc zero) (suc (suc y)) z hx hy hz = absurd (omega arith)
digit_assoc (suc (suc x)) y z hx hy hz = absurd (omega arith)

xor_rest : (a b : ℕ) → bit_xor a b / 2 ≡ bit_xor (a / 2) (b / 2)
xor_rest a b = xor_shr a b 1

xor_low : (a b : ℕ) → bit_xor a b % 2 ≡ bit_xor (a % 2) (b % 2)
xor_low a b = xor_mod a b 1

-- the last digit by itself, and the others by induction
pub xor_assoc : (a b c : ℕ) → bit_xor (bit_xor a b) c ≡ bit_xor a (bit_xor b c)
xor_assoc =
    bin_ind (λ (a : ℕ). (b c : ℕ) → bit_xor (bit_xor a b) c ≡ bit_xor a (bit_xor b c)) (λ b c. refl)
    (λ a ih b c.
    sym (div-add-mod' (bit_xor (bit_xor a b) c) 2)
    ∙ ap₂ (λ (x y : ℕ). x * 2 + y)
    (simp xor_rest (ih (b / 2) (c / 2)))
    (simp xor_low (digit_assoc (a % 2) (b % 2) (c % 2) (omega arith) (omega arith) (omega arith)))
    ∙ div-add-mod' (bit_xor a (bit_xor b c)) 2)

pub xor_undo : (a b : ℕ) → bit_xor (bit_xor a b) b ≡ a
xor_undo a b = xor_assoc a b b ∙ ap (bit_xor a) (xor_self b) ∙ xor_zero_r a

pub xor_undo_left : (a b : ℕ) → bit_xor a (bit_xor a b) ≡ b
xor_undo_left a b = sym (xor_assoc a a b) ∙ ap (λ (x : ℕ). bit_xor x b) (xor_self a)

-- ---- turns: n bits and the k others
module _ (n k : ℕ) (both : n + k ≡ 64) where
  rest : 64 - n ≡ k
  rest = omega arith

  high_part : {x : ℕ} → x < 2 ^ 64 → x / 2 ^ n < 2 ^ k
  high_part {x} h =
      shr_lt k n (subst (λ (e : ℕ). x < 2 ^ e) (sym both ∙ add_comm n k) h)

  -- a turn in its two parts
  parts : (x : ℕ) → turn_right n x ≡ x % 2 ^ n * 2 ^ k + x / 2 ^ n
  unfolding turn_right
  parts x = ap (λ (e : ℕ). x % 2 ^ n * 2 ^ e + x / 2 ^ n) rest

  -- the code's shift to the left drops the high bits
  shifted : (x : ℕ) → (x * 2 ^ k) % 2 ^ 64 ≡ x % 2 ^ n * 2 ^ k
  shifted x =
      ap (λ (e : ℕ). (x * 2 ^ k) % 2 ^ e) (sym both) ∙ mod-pow-add (x * 2 ^ k) n k
      ∙ ap₂ (λ (p q : ℕ). p % 2 ^ n * 2 ^ k + q) (shl-shr x k) (mul-mod_left x (2 ^ k))
      ∙ add-zero (x % 2 ^ n * 2 ^ k)

  pub turn_shifts : (x : ℕ) → x < 2 ^ 64 → bit_or (x / 2 ^ n) ((x * 2 ^ k) % 2 ^ 64) ≡ turn_right n x
  turn_shifts x h =
      ap (bit_or (x / 2 ^ n)) (shifted x) ∙ or_shifted_r (x % 2 ^ n) k (x / 2 ^ n) (high_part h) ∙ sym (parts x)

  pub turn_word : (x : ℕ) → x < 2 ^ 64 → turn_right n x < 2 ^ 64
  turn_word x h =
      subst (λ (y : ℕ). y < 2 ^ 64) (sym (parts x))
      (subst (λ (y : ℕ). x % 2 ^ n * 2 ^ k + x / 2 ^ n < y) (sym (pow-add 2 n k) ∙ ap (λ (e : ℕ). 2 ^ e) both)
      (digits_lt (mod-lt x (pow_pos n)) (high_part h)))

pub turn_undo : (n k : ℕ) → n + k ≡ 64 → (x : ℕ) → x < 2 ^ 64 → turn_right k (turn_right n x) ≡ x
turn_undo n k both x h =
    parts k n (add_comm k n ∙ both) (turn_right n x)
    ∙ ap₂ (λ (p q : ℕ). p * 2 ^ n + q)
    (ap (λ (y : ℕ). y % 2 ^ k) (parts n k both x) ∙ low (x % 2 ^ n) k (high_part n k both h))
    (ap (λ (y : ℕ). y / 2 ^ k) (parts n k both x) ∙ high (x % 2 ^ n) k (high_part n k both h))
    ∙ split x n

-- ---- the plain sum

pub plain_undoes : Undoes plain
plain_undoes = record { sum_word = λ a b ha hb. omega arith; back_word = λ a b ha hb. omega arith; sum_back = λ a b ha hb. omega arith }

-- the library's rotation is the turn
pub turn_rotates : (n x : ℕ) → 0 < n → n < 64 → x < 2 ^ 64 → rotate_right w64 x n ≡ turn_right n x
turn_rotates n x h k w =
    let by : n % 64 ≡ n = mod-eq_of_lt k in
    let rest : (64 - n) % 64 ≡ 64 - n = mod-eq_of_lt (omega arith) in
    rw (by, rest) (turn_shifts n (64 - n) (omega arith) x w)
