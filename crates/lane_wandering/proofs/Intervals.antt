-- So many visits, with q to an interval, take k intervals: each but the last is well within them. Assumes nothing.
use Rattle.std.proofs.Common.{◌≡◌, ap, ℕ, ◌+◌, ◌-◌, ◌*◌, ◌/◌, ◌%◌, ◌<◌, ◌≤◌, min, arith}
use native.Mathlib.Decide.{dec_lt}
use native.Mathlib.Nat.{mul-le-mul_left, mul-le-mul_right}
use Rattle.std.proofs.lemmas.Grind.{div_ceil_times}
use Rattle.lanes.specs.Meetings.{first_visit}
use Rattle.lanes.proofs.InTurn.{visits_reached}

module _ (all q k : ℕ) (pos : 0 < q) (is : k ≡ all / q + min 1 (all % q)) where
  whole : k * q ≡ (all / q + min 1 (all % q)) * q
  whole = ap (λ (n : ℕ). n * q) is

  pub interval_end : (t : ℕ) → t < k → (t + 1) * q < all + q
  interval_end t lt =
      let le : t + 1 ≤ k = omega arith in
      omega (arith, whole, (div_ceil_times all q pos).1, mul-le-mul_right q le)

  pub interval_few : (t : ℕ) → t < k → t < all
  interval_few t lt =
      let one : 1 ≤ q = omega arith in
      omega (arith, interval_end t lt, mul-le-mul_left t one)

  pub intervals_few : k ≤ all
  intervals_few = elim (dec_lt 0 k) [ yes some ↦ omega (arith, interval_few (k - 1) (omega arith)) | no none ↦ omega arith ]

  pub all_reached : all ≤ first_visit q k
  all_reached = visits_reached q all k (omega (arith, whole, (div_ceil_times all q pos).0))
