-- Rows that are for so many lanes: they are as many for each, an even number. Assumes nothing.
use mathlib.Core.Path.{◌≡◌, sym, ap, ◌∙◌}
use Prim.Native.Nat.{ℕ, ◌+◌, ◌*◌, ◌/◌, ◌%◌, ◌≤◌}
use native.Mathlib.Nat.{mul-add, div-add-mod, div-eq_of_eq-mul_right}
use native.Mathlib.Omega.{arith}

pub evenly : (R p : ℕ) → 1 ≤ p → R / 2 % p ≤ 0 → R % 2 ≤ 0 → (p * (R / p) ≡ R) × (R / p % 2 ≡ 0)
evenly R p pos whole even =
    let q = R / 2 / p in
    let half : p * q ≡ R / 2 = omega (arith, div-add-mod (R / 2) p) in
    let all : R ≡ p * (q + q) = omega (arith, half, mul-add p q q) in
    let each : R / p ≡ q + q = div-eq_of_eq-mul_right pos all in
    (ap (λ (n : ℕ). p * n) each ∙ sym all, omega (arith, each))
