-- An interval of Setup that begins before the last row, in lanes of n rows. Assumes nothing.
use Rattle.std.proofs.Common.{◌≡◌, ℕ, suc, ◌+◌, ◌*◌, ◌<◌, ◌≤◌, min, arith}
use Rattle.lanes.specs.Meetings.{first_row}
use Rattle.lanes.proofs.InTurn.{row_least, row_steps}

module _ (n first next t end : ℕ) (before : first < n) (is : first ≡ min (first_row t) n) (then : next ≡ first_row (suc t)) (at : end ≡ min next n) where
  pub begins : first ≡ first_row t
  begins = omega arith

  pub ordered : (t + 3 ≤ first) × (first < end) × (end ≤ n) × (next ≤ 2 * first)
  ordered = omega (arith, begins, row_least t, row_steps t)
