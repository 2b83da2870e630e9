-- The places of a list by groups of three and of four, and a number of 24 bits as four digits of base 64 and as three of base 256.
-- Assumes nothing.
use mathlib.Core.Path.{◌≡◌, refl, sym, ap, subst}
use Prim.Native.Nat.{ℕ, zero, suc, ◌+◌, ◌*◌, ◌-◌, ◌/◌, ◌%◌, ◌^◌, ◌<◌}
use native.Mathlib.Omega.{arith}

-- ---- what holds of each place of a group holds of every place

below_3 : (P : ℕ → Type 0) → P 0 → P 1 → P 2 → (k : ℕ) → k < 3 → P k
below_3 P p₀ p₁ p₂ zero h = p₀
below_3 P p₀ p₁ p₂ (suc zero) h = p₁
below_3 P p₀ p₁ p₂ (suc (suc zero)) h = p₂
below_3 P p₀ p₁ p₂ (suc (suc (suc k))) h = absurd (omega arith)

below_4 : (P : ℕ → Type 0) → P 0 → P 1 → P 2 → P 3 → (k : ℕ) → k < 4 → P k
below_4 P p₀ p₁ p₂ p₃ zero h = p₀
below_4 P p₀ p₁ p₂ p₃ (suc zero) h = p₁
below_4 P p₀ p₁ p₂ p₃ (suc (suc zero)) h = p₂
below_4 P p₀ p₁ p₂ p₃ (suc (suc (suc zero))) h = p₃
below_4 P p₀ p₁ p₂ p₃ (suc (suc (suc (suc k)))) h = absurd (omega arith)

module _ (P : ℕ → Type 0) where
  pub by_threes : ((g : ℕ) → P (3 * g)) → ((g : ℕ) → P (3 * g + 1)) → ((g : ℕ) → P (3 * g + 2)) → (j : ℕ) → P j
  by_threes p₀ p₁ p₂ j =
      let g = j / 3 in
      below_3 (λ k. j ≡ 3 * g + k → P j) (λ e. subst P (omega arith) (p₀ g)) (λ e. subst P (sym e) (p₁ g)) (λ e. subst P (sym e) (p₂ g))
      (j % 3) (omega arith) (omega arith)

  pub by_fours : ((g : ℕ) → P (4 * g)) → ((g : ℕ) → P (4 * g + 1)) → ((g : ℕ) → P (4 * g + 2)) → ((g : ℕ) → P (4 * g + 3)) → (i : ℕ) → P i
  by_fours p₀ p₁ p₂ p₃ i =
      let g = i / 4 in
      below_4 (λ k. i ≡ 4 * g + k → P i) (λ e. subst P (omega arith) (p₀ g)) (λ e. subst P (sym e) (p₁ g)) (λ e. subst P (sym e) (p₂ g))
      (λ e. subst P (sym e) (p₃ g)) (i % 4) (omega arith) (omega arith)

-- ---- four digits of base 64

abbrev pub number_4 : (ℕ → ℕ) → ℕ → ℕ
number_4 f g = ((f (4 * g) * 64 + f (4 * g + 1)) * 64 + f (4 * g + 2)) * 64 + f (4 * g + 3)

module _ (f : ℕ → ℕ) (small : (i : ℕ) → f i < 64) where
  pub number_4_small : (g : ℕ) → number_4 f g < 2 ^ 24
  number_4_small g = omega (arith, small (4 * g), small (4 * g + 1), small (4 * g + 2), small (4 * g + 3))

  pub digit_4 : (i : ℕ) → number_4 f (i / 4) / 64 ^ (3 - i % 4) % 64 ≡ f i
  digit_4 i =
      let g = i / 4 in
      let h₀ = small (4 * g) in
      let h₁ = small (4 * g + 1) in
      let h₂ = small (4 * g + 2) in
      let h₃ = small (4 * g + 3) in
      below_4 (λ k. i ≡ 4 * g + k → number_4 f g / 64 ^ (3 - k) % 64 ≡ f i)
      (λ e.
      let first : i ≡ 4 * g = omega arith in
      omega (arith, ap f first))
      (λ e. omega (arith, ap f e)) (λ e. omega (arith, ap f e)) (λ e. omega (arith, ap f e)) (i % 4) (omega arith) (omega arith)

pub number_of_digits_4 : (x : ℕ) → x < 2 ^ 24
    → ((x / 64 ^ 3 % 64 * 64 + x / 64 ^ 2 % 64) * 64 + x / 64 ^ 1 % 64) * 64 + x / 64 ^ 0 % 64 ≡ x
number_of_digits_4 x h =
    let top : x / 64 ^ 3 % 64 ≡ x / 64 ^ 3 = omega arith in
    let upper : x / 64 ^ 3 * 64 + x / 64 ^ 2 % 64 ≡ x / 64 ^ 2 = omega arith in
    let lower : x / 64 ^ 2 * 64 + x / 64 ^ 1 % 64 ≡ x / 64 ^ 1 = omega arith in
    let all : x / 64 ^ 1 * 64 + x / 64 ^ 0 % 64 ≡ x = omega arith in
    rw (top, upper, lower) all

-- ---- three digits of base 256

abbrev pub number_3 : (ℕ → ℕ) → ℕ → ℕ
number_3 f g = (f (3 * g) * 256 + f (3 * g + 1)) * 256 + f (3 * g + 2)

module _ (f : ℕ → ℕ) (small : (i : ℕ) → f i < 256) where
  pub number_3_small : (g : ℕ) → number_3 f g < 2 ^ 24
  number_3_small g = omega (arith, small (3 * g), small (3 * g + 1), small (3 * g + 2))

  pub digit_3 : (j : ℕ) → number_3 f (j / 3) / 256 ^ (2 - j % 3) % 256 ≡ f j
  digit_3 j =
      let g = j / 3 in
      let h₀ = small (3 * g) in
      let h₁ = small (3 * g + 1) in
      let h₂ = small (3 * g + 2) in
      below_3 (λ k. j ≡ 3 * g + k → number_3 f g / 256 ^ (2 - k) % 256 ≡ f j)
      (λ e.
      let first : j ≡ 3 * g = omega arith in
      omega (arith, ap f first))
      (λ e. omega (arith, ap f e)) (λ e. omega (arith, ap f e)) (j % 3) (omega arith) (omega arith)

pub number_of_digits_3 : (x : ℕ) → x < 2 ^ 24 → (x / 256 ^ 2 % 256 * 256 + x / 256 ^ 1 % 256) * 256 + x / 256 ^ 0 % 256 ≡ x
number_of_digits_3 x h = omega arith

-- ---- the code's shifts are divisions

pub shift_4 : (x k : ℕ) → k < 4 → x / 2 ^ (18 - 6 * k) % 64 ≡ x / 64 ^ (3 - k) % 64
shift_4 x = below_4 (λ k. x / 2 ^ (18 - 6 * k) % 64 ≡ x / 64 ^ (3 - k) % 64) refl refl refl refl

pub shift_3 : (x k : ℕ) → k < 3 → x / 2 ^ (16 - 8 * k) % 256 ≡ x / 256 ^ (2 - k) % 256
shift_3 x = below_3 (λ k. x / 2 ^ (16 - 8 * k) % 256 ≡ x / 256 ^ (2 - k) % 256) refl refl refl
