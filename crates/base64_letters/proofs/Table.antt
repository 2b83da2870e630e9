-- A rule of the numbers below n, proved at all of them by one test that is computed. Assumes nothing.
use mathlib.Core.Path.{◌≡◌, ◌∙◌, ap}
use mathlib.Core.Bool.{Bool, true, ◌&&◌, and-eq-true_iff}
use Prim.Native.Nat.{ℕ, zero, suc, ◌<◌}
use native.Mathlib.Nat.{not-suc-le-zero}
use native.Mathlib.Decide.{ℕ_discrete}
use native.Mathlib.Omega.{arith}

-- the test passes at each number below n
abbrev pub every : (ℕ → Bool) → ℕ → Bool
every test zero = true
every test (suc n) = test n && every test n

pub at : (test : ℕ → Bool) (n : ℕ) → every test n ≡ true → (k : ℕ) → k < n → test k ≡ true
at test zero e k h = absurd (not-suc-le-zero h)
at test (suc n) e k h =
    let parts = (and-eq-true_iff (test n) (every test n)).0 e in
    elim (ℕ_discrete k n) [
      | yes last ↦ ap test last ∙ parts.0
      | no other ↦ at test n parts.1 k (omega arith)
    ]
