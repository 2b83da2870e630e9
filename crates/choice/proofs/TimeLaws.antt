-- The greatest T inside the rounds, as a division finds it. Assumes nothing.
use mathlib.Core.Path.{◌≡◌}
use Prim.Native.Nat.{ℕ, ◌+◌, ◌-◌, ◌*◌, ◌/◌, ◌≤◌, ◌<◌, min}
use native.Mathlib.Omega.{arith, by_contra}
use native.Mathlib.Nat.{le-min, min-le_left, min-le_right, le-div_iff_mul-le, div-lt_iff_lt-mul}
use Rattle.settings.specs.declared.Lengths.{Lengths}
use Rattle.derivation.proofs.Answering.{rounds_spent}
use Rattle.choice.specs.Choice.{triple, spends, full_spent, cells, time_for}
use Rattle.choice.specs.declared.Limits.{Limits}
use Rattle.choice.specs.declared.Shape.{Shape}
use Rattle.choice.proofs.GreatestLaws.{greatest_is}

module _ (l : Lengths) (g : Limits) where
  -- the rounds spent, written out
  pub spends_is : (T : ℕ) (s : Shape) → spends l g T s ≡ full_spent l + g.rounds * (cells s * (T + 1))
  unfolding spends
  spends_is T s = rounds_spent l (triple g T s.rows s.columns)

  module _ (s : Shape) (some : 1 ≤ g.rounds * cells s) (once : spends l g 1 s ≤ g.budget) where
    -- how often the cells can be called for
    abbrev turns : ℕ
    turns = (g.budget - full_spent l) / (g.rounds * cells s)

    pub two_turns : 2 ≤ turns
    two_turns = let spent = spends_is 1 s in (le-div_iff_mul-le {k = g.rounds * cells s} some).1 (omega (arith, spent, once))

    inside : (T : ℕ) → T + 1 ≤ turns → spends l g T s ≤ g.budget
    inside T h =
        let spent = spends_is T s in
        let one = spends_is 1 s in
        let k : (T + 1) * (g.rounds * cells s) ≤ g.budget - full_spent l = (le-div_iff_mul-le {k = g.rounds * cells s} some).0 h in
        omega (arith, spent, one, once, k)

    beyond : (T : ℕ) → turns < T + 1 → g.budget < spends l g T s
    beyond T h =
        let spent = spends_is T s in
        let k : g.budget - full_spent l < (T + 1) * (g.rounds * cells s) = (div-lt_iff_lt-mul {k = g.rounds * cells s} some).0 h in
        omega (arith, spent, k)

    pub time_is : min (turns - 1) 255 ≡ time_for l g s
    unfolding time_for
    time_is =
        let enough : 2 ≤ turns = two_turns in
        let least : 1 ≤ min (turns - 1) 255 = le-min (omega arith) (omega arith) in
        let left : min (turns - 1) 255 ≤ turns - 1 = min-le_left _ _ in
        let cut : min (turns - 1) 255 ≤ 255 = min-le_right _ _ in
        greatest_is (λ (T : ℕ). spends l g T s) g.budget 1 255 _ least (least, omega arith, inside _ (omega arith))
        (λ y above below. beyond y
        (by_contra _ _ (λ more. (let still : y ≤ min (turns - 1) 255 = le-min (omega arith) (omega arith) in omega arith))))
