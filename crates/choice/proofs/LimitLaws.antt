-- The bound on the cells, from both sides: what stays within it, and that it is the greatest such number. Assumes nothing.
use mathlib.Core.Path.{◌≡◌, refl, ap}
use mathlib.Core.Bool.{Bool, true, false, cond}
use Prim.Native.Nat.{ℕ, ◌+◌, ◌-◌, ◌*◌, ◌/◌, ◌≤◌, ◌<◌, min}
use native.Mathlib.Omega.{arith}
use native.Mathlib.Nat.{le_trans, le-min, min-le_left, min-le_right, le-div_iff_mul-le}
use lib.Dec.{ltb}
use borrow.Author.Tests.{ltb-true, ltb-false, lt-ltb, le-ltb}
use Rattle.settings.specs.declared.Lengths.{Lengths}
use Rattle.refusals.specs.Checks.{max_rows, max_columns}
use Rattle.choice.specs.Choice.{full_spent, cell_spent, smallest, cell_limit}
use Rattle.choice.specs.declared.Limits.{Limits}

module _ (l : Lengths) (g : Limits) where
  pub limit_none : g.budget < full_spent l → cell_limit l g ≡ 0
  unfolding cell_limit
  limit_none h = ap (λ (b : Bool). cond b 0 (smallest l g)) (lt-ltb _ _ h)

  pub limit_some : full_spent l ≤ g.budget → cell_limit l g ≡ smallest l g
  unfolding cell_limit
  limit_some h = ap (λ (b : Bool). cond b 0 (smallest l g)) (le-ltb _ _ h)

  abbrev within_rounds : ℕ
  within_rounds = (g.budget - full_spent l) / cell_spent g

  -- so many cells, with two reduced calls each
  abbrev pub Holds : ℕ → Type 0
  Holds n = (12 * n ≤ g.words) × (full_spent l + n * (2 * g.rounds) ≤ g.budget) × (n ≤ 4194304)

  module _ (h : 1 ≤ g.rounds) where
    pub limit_holds : 0 < cell_limit l g → Holds (cell_limit l g)
    limit_holds some = go (ltb g.budget (full_spent l)) refl
      where
        go : (b : Bool) → ltb g.budget (full_spent l) ≡ b → Holds (cell_limit l g)
        go true e = let none : cell_limit l g ≡ 0 = limit_none (ltb-true _ _ e) in absurd (omega arith)
        go false e =
            let enough : full_spent l ≤ g.budget = ltb-false _ _ e in
            let is : cell_limit l g ≡ smallest l g = limit_some enough in
            let words : smallest l g ≤ g.words / 12 = min-le_left _ _ in
            let later : smallest l g ≤ min within_rounds (max_rows * max_columns) = min-le_right _ _ in
            let rounds : smallest l g ≤ within_rounds = le_trans later (min-le_left _ _) in
            let most : smallest l g ≤ max_rows * max_columns = le_trans later (min-le_right _ _) in
            let spent : cell_limit l g * cell_spent g ≤ g.budget - full_spent l = (le-div_iff_mul-le {k = cell_spent g} {x = cell_limit l g} {y = g.budget - full_spent l} (omega arith)).0 (omega arith) in
            (omega arith, omega arith, omega arith)

    pub limit_most : (n : ℕ) → Holds n → n ≤ cell_limit l g
    limit_most n holds =
        let is : cell_limit l g ≡ smallest l g = limit_some (omega arith) in
        let spent : n * cell_spent g ≤ g.budget - full_spent l = omega arith in
        let rounds : n ≤ within_rounds = (le-div_iff_mul-le {k = cell_spent g} (omega arith)).1 spent in
        let all : n ≤ smallest l g = le-min (omega arith) (le-min rounds holds.2) in
        omega arith
