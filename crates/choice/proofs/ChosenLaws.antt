-- What is so of the chosen shape where no check refuses: it is one of those that were tried, and T = 1 stays inside the rounds. Assumes nothing.
use mathlib.Core.Path.{◌≡◌}
use Prim.Native.Nat.{ℕ, ◌*◌, ◌≤◌}
use native.Mathlib.Omega.{arith}
use native.Mathlib.Nat.{le_trans, mul-le-mul, mul-le-mul_right, le-min}
use Rattle.settings.specs.declared.Lengths.{Lengths}
use Rattle.refusals.specs.Checks.{Accepted, choice_checks}
use Rattle.refusals.proofs.Accepted.{accepted}
use Rattle.choice.specs.Choice.{spends, cell_limit, cells, best_of, tried, time_for, choice_number}
use Rattle.choice.specs.Fitting.{Within, Best}
use Rattle.choice.specs.declared.Limits.{Limits}
use Rattle.choice.specs.declared.Shape.{Shape}
use Rattle.choice.proofs.GreatestLaws.{Found, greatest-found, greatest_above}
use Rattle.choice.proofs.LimitLaws.{limit_holds}
use Rattle.choice.proofs.TimeLaws.{spends_is}
use Rattle.choice.proofs.BestLaws.{best_is}

-- three cells in one column are the least that can fit
abbrev pub three : Shape
three = record { rows = 3; columns = 1 }

module _ (l : Lengths) (g : Limits) where
  abbrev pub best : Shape
  best = best_of (cell_limit l g) (tried g)

  pub best_of_tried : Best (cell_limit l g) (tried g) best
  best_of_tried = best_is (cell_limit l g) (tried g)

  module _ (number_is : choice_number l g ≡ 0) where
    pub bounds : Accepted (choice_checks l g.rounds g.tries (cell_limit l g))
    unfolding choice_checks
    bounds = accepted _ (omega arith) number_is

    least_tried : Within (cell_limit l g) (tried g) three
    unfolding choice_checks
    least_tried =
        let b = bounds in
        let one : 1 ≤ tried g = le-min (omega (arith, b)) (omega arith) in
        record { rows_least = omega arith; rows_most = omega arith; columns_least = omega arith; columns_most = one; cells_most = omega (arith, b) }

    three_at_least : 3 ≤ cells best
    three_at_least = best_of_tried.most_cells three least_tried

    pub best_within : Within (cell_limit l g) (tried g) best
    best_within = let some = three_at_least in best_of_tried.one_of_them (omega (arith, some))

    -- with T = 1 it stays inside B
    pub once : spends l g 1 best ≤ g.budget
    unfolding choice_checks
    once =
        let b = bounds in
        let some = limit_holds l g (omega (arith, b)) (omega (arith, b)) in
        let spent = spends_is l g 1 best in
        let less : cells best * (2 * g.rounds) ≤ cell_limit l g * (2 * g.rounds) = mul-le-mul_right _ best_within.cells_most in
        omega (arith, some, spent, less)

    pub time_found : Found (λ (T : ℕ). spends l g T best) g.budget 1 255 (time_for l g best)
    unfolding time_for
    time_found =
        let one : 1 ≤ time_for l g best = greatest_above (λ (T : ℕ). spends l g T best) g.budget 1 255 1 (omega arith, omega arith, once) in
        greatest-found (λ (T : ℕ). spends l g T best) g.budget 1 255 one

    -- the rounds of one reduced call for each cell
    pub turn_bounds : (1 ≤ g.rounds * cells best) × (g.rounds * cells best ≤ 50331648) × (cells best ≤ 4194304)
    unfolding choice_checks
    turn_bounds =
        let b = bounds in
        let some = limit_holds l g (omega (arith, b)) (omega (arith, b)) in
        let most : cells best ≤ 4194304 = le_trans best_within.cells_most some.2 in
        let least : 1 ≤ cells best = omega (arith, three_at_least) in
        let rounds : 1 ≤ g.rounds = omega (arith, b) in
        let rounds_most : g.rounds ≤ 12 = omega (arith, b) in
        (mul-le-mul {n₁ = 1} {m₁ = 1} rounds least, mul-le-mul {n₂ = 12} {m₂ = 4194304} rounds_most most, most)
