-- Where the rows of a lane's two halves lie. Assumes nothing.
use mathlib.Core.Path.{subst}
use Prim.Native.Nat.{ℕ, ◌+◌, ◌*◌, ◌/◌, ◌%◌, ◌≤◌, ◌<◌}
use native.Mathlib.Nat.{one-mul, mul-le-mul_right}
use native.Mathlib.Omega.{arith}
use Rattle.lanes.specs.LaneVisits.{half_row}

-- the half before a row's own
pub half_le : (t h : ℕ) → t % 2 * h ≤ h
half_le t h = subst (λ (n : ℕ). t % 2 * h ≤ n) (one-mul h) (mul-le-mul_right h (omega arith))

pub in_lane_lem : (n i t x : ℕ) → x < n / 2 → (i * n ≤ half_row n i t x) × (half_row n i t x < i * n + n)
in_lane_lem n i t x lt = omega (arith, half_le t (n / 2))
