-- What is promised of the choice of costs (request 109): how far the answer is from any triple that fits, when there is none, that the answer
-- itself fits with the greatest T, and that it is the best of what was tried. Assumes nothing.
use mathlib.Core.Path.{◌≡◌, refl, sym, ap, subst, ◌∙◌}
use mathlib.Core.List.{[], ◌∷◌}
use mathlib.Core.Logic.{◌↔◌}
use Prim.Native.Nat.{ℕ, ◌+◌, ◌*◌, ◌≤◌, ◌<◌}
use native.Mathlib.Omega.{arith, by_contra}
use native.Mathlib.Nat.{le_trans, mul-le-mul_left, mul-le-mul_right, min-le_right, min-eq_right}
use borrow.Author.Tests.{ltb-true, lt-ltb}
use Rattle.settings.specs.declared.Lengths.{Lengths}
use Rattle.refusals.specs.Checks.{Check, Accepted, first, cost_checks, given_checks, tries_check, cells_check, choice_checks}
use Rattle.refusals.proofs.Accepted.{accepted, accepts, alone, first_before, first_last, first_refused, more_pass, cells_most}
use Rattle.refusals.proofs.Answered.{answered_is, answered_number}
use Rattle.choice.specs.Choice.{Choice, triple, spends, cell_limit, cells, tried, time_for, chosen, no_choice, choice_number, choice_answer}
use Rattle.choice.specs.Fitting.{Within, Best, Fits, NothingFits, earlier_checks, shape_of}
use Rattle.choice.specs.declared.Limits.{Limits}
use Rattle.choice.specs.declared.Shape.{Shape}
use Rattle.choice.proofs.GreatestLaws.{greatest_above}
use Rattle.choice.proofs.LimitLaws.{limit_holds, limit_most}
use Rattle.choice.proofs.TimeLaws.{spends_is}
use Rattle.choice.proofs.BestLaws.{cells_least}
use Rattle.choice.proofs.ChosenLaws.{three, best, best_of_tried, bounds, best_within, time_found}

module _ (l : Lengths) (g : Limits) where
  -- ---- the bound on the cells

  fit_bounds : (T : ℕ) (s : Shape) → Fits l g T s → Accepted (cost_checks l (triple g T s.rows s.columns))
  unfolding cost_checks
  fit_bounds T s fits = accepted _ (omega arith) fits.allowed

  pub fits_within_limit : (T : ℕ) (s : Shape) → Fits l g T s → cells s ≤ cell_limit l g
  unfolding cost_checks
  fits_within_limit T s fits =
      let bounds = fit_bounds T s fits in
      let spent = spends_is l g T s in
      let visits : 2 ≤ T + 1 = omega (arith, fits.visited) in
      let twice : g.rounds * (cells s * 2) ≤ g.rounds * (cells s * (T + 1)) = mul-le-mul_left _ (mul-le-mul_left (cells s) visits) in
      limit_most l g (omega (arith, bounds)) (cells s)
      (fits.words_fit, omega (arith, spent, twice, fits.rounds_fit), cells_most s.rows s.columns (omega (arith, bounds)) (omega (arith, bounds)))

  three_fits : Accepted (given_checks l g.rounds) → 3 ≤ cell_limit l g → Fits l g 1 three
  unfolding cost_checks
  three_fits bounds h =
      let some = limit_holds l g (omega (arith, bounds)) (omega arith) in
      let spent = spends_is l g 1 three in
      let less : 3 * (2 * g.rounds) ≤ cell_limit l g * (2 * g.rounds) = mul-le-mul_right _ h in
      record {
        allowed = accepts _ (omega (arith, bounds));
        visited = omega arith;
        words_fit = omega (arith, some);
        rounds_fit = omega (arith, some, spent, less);
      }

  least_cells : (T : ℕ) (s : Shape) → Fits l g T s → 3 ≤ cells s
  unfolding cost_checks
  least_cells T s fits =
      let bounds = fit_bounds T s fits in
      cells_least s (omega (arith, bounds)) (omega (arith, bounds))

  -- ---- when nothing fits

  -- no allowed triple with T at least 1 fits exactly where U is under 3
  pub nothing_fits_exactly : first (given_checks l g.rounds) ≡ 0 → NothingFits l g ↔ (cell_limit l g < 3)
  nothing_fits_exactly e = (
    λ none. by_contra _ _ (λ more. none 1 three (three_fits (accepted (given_checks l g.rounds) (omega arith) e) (omega arith))),
    λ below T s fits. (let most = fits_within_limit T s fits in let least = least_cells T s fits in omega (arith, most, least)),
  )

  abbrev last_check : Check
  last_check = cells_check (cell_limit l g)

  given_16 : first (earlier_checks l g) ≡ 0 → cell_limit l g < 3 → choice_number l g ≡ 16
  unfolding choice_checks
  given_16 e h =
      let refused : first (last_check ∷ []) ≡ 16 = first_refused last_check [] (sym (alone _) ∙ lt-ltb _ _ h) in
      sym (more_pass (earlier_checks l g) (last_check ∷ []) refl (omega arith) e (sym refused))

  below_3 : choice_number l g ≡ 16 → (first (earlier_checks l g) ≡ 0) × (cell_limit l g < 3)
  unfolding choice_checks
  below_3 is =
      let last = first_last (earlier_checks l g) last_check (omega arith) (omega arith) (omega arith) is in
      (last.0, ltb-true _ _ (alone _ ∙ last.1))

  -- 16 is given exactly where no earlier check refuses and nothing fits
  pub refused_16_exactly : (choice_number l g ≡ 16) ↔ ((first (earlier_checks l g) ≡ 0) × NothingFits l g)
  refused_16_exactly = (
    λ is. (let low = below_3 is in (low.0, (nothing_fits_exactly (given low.0)).1 low.1)),
    λ none. given_16 none.0 ((nothing_fits_exactly (given none.0)).0 none.1),
  )
    where
      given : first (earlier_checks l g) ≡ 0 → first (given_checks l g.rounds) ≡ 0
      given e = first_before (given_checks l g.rounds) (tries_check g.tries ∷ []) e

  -- ---- the answer

  module _ (r : Choice) (answer : r ≡ choice_answer l g) (none-refused : r.refusal ≡ 0) where
    number_is : choice_number l g ≡ 0
    unfolding choice_answer chosen no_choice
    number_is = sym (answered_number (λ (c : Choice). c.refusal) (choice_number l g) (chosen l g) (no_choice (choice_number l g)) refl refl) ∙ ap (λ (c : Choice). c.refusal) (sym answer) ∙ none-refused

    answer_is : r ≡ chosen l g
    unfolding choice_answer
    answer_is = answered_is _ _ number_is answer

    -- none that fits has more cells than the answer's and the reported number together, which are U
    pub cells_and_shortfall : cells (shape_of r) + r.shortfall ≡ cell_limit l g
    unfolding chosen
    cells_and_shortfall =
        let most = (best_within l g number_is).cells_most in
        subst (λ (c : Choice). cells (shape_of c) + c.shortfall ≡ cell_limit l g) (sym answer_is) (omega (arith, most))

    pub shortfall_bounds : (T : ℕ) (s : Shape) → Fits l g T s → cells s ≤ cells (shape_of r) + r.shortfall
    shortfall_bounds T s fits = subst (λ (n : ℕ). cells s ≤ n) (sym cells_and_shortfall) (fits_within_limit T s fits)

    -- the answer is accepted by the cost question, fits W, has T from 1 on and spends at most B
    pub answer_fits : Fits l g r.time (shape_of r)
    unfolding chosen cost_checks choice_checks
    answer_fits =
        let b = bounds l g number_is in
        let w = best_within l g number_is in
        let columns : (best l g).columns ≤ 256 = le_trans w.columns_most (min-le_right _ _) in
        let found = time_found l g number_is in
        let some = limit_holds l g (omega (arith, b)) (omega (arith, b)) in
        subst (λ (c : Choice). Fits l g c.time (shape_of c)) (sym answer_is)
        (record {
          allowed = accepts _ (omega (arith, b, w.rows_least, w.rows_most, w.columns_least, columns, found.0, found.1));
          visited = found.0;
          words_fit = omega (arith, w.cells_most, some.0);
          rounds_fit = found.2;
        })

    -- T is the greatest
    pub one_more_spends_more : r.time < 255 → g.budget < spends l g (r.time + 1) (shape_of r)
    unfolding chosen time_for
    one_more_spends_more =
        subst (λ (c : Choice). c.time < 255 → g.budget < spends l g (c.time + 1) (shape_of c)) (sym answer_is)
        (λ below. by_contra _ _
        (λ inside. (let above : time_for l g (best l g) + 1 ≤ time_for l g (best l g) = greatest_above (λ (T : ℕ). spends l g T (best l g)) g.budget 1 255 _ (omega arith, omega arith, omega (arith, inside)) in omega arith)))

    -- of all allowed shapes with at most U cells and columns of a number that was tried none has more cells, and none of as many has fewer columns
    pub answer_best : Best (cell_limit l g) (tried g) (shape_of r)
    unfolding chosen
    answer_best = subst (λ (c : Choice). Best (cell_limit l g) (tried g) (shape_of c)) (sym answer_is) (best_of_tried l g)

    -- with N at least 256 these are all
    pub none_better : 256 ≤ g.tries → (s : Shape) → Within (cell_limit l g) 256 s → cells s ≤ cells (shape_of r)
    none_better all s w =
        answer_best.most_cells s (subst (λ (n : ℕ). Within (cell_limit l g) n s) (sym (min-eq_right all)) w)

    -- and then no triple that fits has more cells
    pub none_that_fits_better : 256 ≤ g.tries → (T : ℕ) (s : Shape) → Fits l g T s → cells s ≤ cells (shape_of r)
    unfolding cost_checks
    none_that_fits_better all T s fits =
        let b = fit_bounds T s fits in
        none_better all s
        (record {
          rows_least = omega (arith, b);
          rows_most = omega (arith, b);
          columns_least = omega (arith, b);
          columns_most = omega (arith, b);
          cells_most = fits_within_limit T s fits;
        })
