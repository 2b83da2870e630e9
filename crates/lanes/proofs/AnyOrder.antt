-- Steps of lanes that may change places with those of any other lane give the same in every order. Assumes nothing.
use mathlib.Core.Path.{◌≡◌, refl, sym, ap, ap₂, ◌∙◌}
use mathlib.Core.Logic.{◌≢◌}
use mathlib.Core.Bool.{cond}
use Prim.Native.Nat.{ℕ, zero, suc, ◌+◌, ◌≤◌, ◌<◌}
use native.Mathlib.Nat.{zero-add}
use native.Mathlib.Decide.{ℕ_discrete, dec_lt}
use native.Mathlib.Omega.{arith}
use mathlib.Core.List.{List, [], ◌∷◌}
use lib.Dec.{eqb}
use borrow.Author.Tests.{eq-eqb, ne_eqb}
use Rattle.lists.specs.Loop.{loop}
use Rattle.lists.proofs.LoopLaws.{loop_idle}
use Rattle.lanes.specs.Orders.{run, turns, Schedule}

-- each step of one loop may change places with each of the other
module _ {A : Type 0} (f g : ℕ → A → A) where
  one_swap : (i k : ℕ) → ((j : ℕ) → j < k → (a : A) → f i (g j a) ≡ g j (f i a)) → (a : A) → f i (loop g k a) ≡ loop g k (f i a)
  unfolding loop
  one_swap i zero swap a = refl
  one_swap i (suc k) swap a = swap k (omega arith) (loop g k a) ∙ ap (g k) (one_swap i k (λ j lt. swap j (omega arith)) a)

  pub loops_swap : (n k : ℕ) → ((i j : ℕ) → i < n → j < k → (a : A) → f i (g j a) ≡ g j (f i a)) → (a : A) → loop f n (loop g k a) ≡ loop g k (loop f n a)
  unfolding loop
  loops_swap zero k swap a = refl
  loops_swap (suc n) k swap a =
      ap (f n) (loops_swap n k (λ i j lt. swap i j (omega arith)) a) ∙ one_swap n k (λ j. swap n j (omega arith)) (loop f n a)

-- p lanes; what is known between steps is kept by each step, and steps of two lanes may change places
module _ {A : Type 0} (p : ℕ) (step : ℕ → A → A) (Good : A → Type 0) (keeps : (i : ℕ) → i < p → (a : A) → Good a → Good (step i a))
    (swap : (i j : ℕ) → i < p → j < p → i ≢ j → (a : A) → Good a → step i (step j a) ≡ step j (step i a)) where
  -- n steps of lane i
  abbrev steps : ℕ → ℕ → A → A
  steps i n = loop (λ k. step i) n

  keeps_steps : (i n : ℕ) → i < p → (a : A) → Good a → Good (steps i n a)
  unfolding loop
  keeps_steps i zero lt a good = good
  keeps_steps i (suc n) lt a good = keeps i lt _ (keeps_steps i n lt a good)

  -- lanes below q in turn, lane i with c i steps
  abbrev in_turn : (ℕ → ℕ) → ℕ → A → A
  in_turn c q = loop (λ i. steps i (c i)) q

  keeps_turn : (c : ℕ → ℕ) (q : ℕ) → q ≤ p → (a : A) → Good a → Good (in_turn c q a)
  unfolding loop
  keeps_turn c zero le a good = good
  keeps_turn c (suc q) le a good = keeps_steps q (c q) (omega arith) _ (keeps_turn c q (omega arith) a good)

  -- a step of another lane first, or last
  past_steps : (i j n : ℕ) → i < p → j < p → i ≢ j → (a : A) → Good a → steps i n (step j a) ≡ step j (steps i n a)
  unfolding loop
  past_steps i j zero hi hj ne a good = refl
  past_steps i j (suc n) hi hj ne a good =
      ap (step i) (past_steps i j n hi hj ne a good) ∙ swap i j hi hj ne _ (keeps_steps i n hi a good)

  past_turn : (c : ℕ → ℕ) (q j : ℕ) → q ≤ j → j < p → (a : A) → Good a → in_turn c q (step j a) ≡ step j (in_turn c q a)
  unfolding loop
  past_turn c zero j le hj a good = refl
  past_turn c (suc q) j le hj a good =
      ap (steps q (c q)) (past_turn c q j (omega arith) hj a good)
      ∙ past_steps q j (c q) (omega arith) hj (λ e. omega arith) _ (keeps_turn c q (omega arith) a good)

  -- a step more is one made first
  step_more : (i n : ℕ) (a : A) → steps i n (step i a) ≡ steps i (suc n) a
  unfolding loop
  step_more i zero a = refl
  step_more i (suc n) a = ap (step i) (step_more i n a)

  more_steps : (i n : ℕ) (a : A) → steps i n (step i a) ≡ steps i (1 + n) a
  more_steps i n a = step_more i n a ∙ ap (λ (k : ℕ). steps i k a) (omega arith)

  -- counts that are the same below q
  same_turn : (c d : ℕ → ℕ) (q : ℕ) → ((i : ℕ) → i < q → c i ≡ d i) → (a : A) → in_turn c q a ≡ in_turn d q a
  unfolding loop
  same_turn c d zero same a = refl
  same_turn c d (suc q) same a = ap₂ (λ (n : ℕ) (b : A). steps q n b) (same q (omega arith)) (same_turn c d q (λ i lt. same i (omega arith)) a)

  -- a turn more of lane j
  abbrev once : ℕ → ℕ → ℕ
  once j i = cond (eqb i j) 1 0

  turn_here : (c : ℕ → ℕ) (j : ℕ) → once j j + c j ≡ 1 + c j
  turn_here c j = ap (λ (b : _). cond b 1 0 + c j) (eq-eqb j j refl)

  turn_else : (c : ℕ → ℕ) (i j : ℕ) → i ≢ j → once j i + c i ≡ c i
  turn_else c i j ne = ap (λ (b : _). cond b 1 0 + c i) (ne_eqb i j ne) ∙ zero-add (c i)

  last_turn : (c : ℕ → ℕ) (q j : ℕ) → j < p → j ≡ q → (a : A) → Good a → steps q (c q) (in_turn c q (step j a)) ≡ steps q (once j q + c q) (in_turn (λ i. once j i + c i) q a)
  last_turn c q j lt here a good =
      ap (steps q (c q)) (past_turn c q j (omega arith) lt a good ∙ ap (λ (k : ℕ). step k (in_turn c q a)) here)
      ∙ more_steps q (c q) (in_turn c q a)
      ∙ ap₂ (λ (n : ℕ) (b : A). steps q n b) (sym (turn_here c q) ∙ ap (λ (k : ℕ). once k q + c q) (sym here))
      (same_turn c (λ i. once j i + c i) q (λ i less. sym (turn_else c i j (λ e. omega arith))) a)

  first_turn : (c : ℕ → ℕ) (q j : ℕ) → q ≤ p → j < q → (a : A) → Good a → in_turn c q (step j a) ≡ in_turn (λ i. once j i + c i) q a
  unfolding loop
  first_turn c zero j le lt a good = absurd (omega arith)
  first_turn c (suc q) j le lt a good =
      elim (ℕ_discrete j q) [
        | yes here ↦ last_turn c q j (omega arith) here a good
        | no other ↦ ap₂ (λ (n : ℕ) (b : A). steps q n b) (sym (turn_else c q j (λ e. other (sym e)))) (first_turn c q j (omega arith) (omega arith) a good)
      ]

  -- an order of lanes below p
  Within : List ℕ → Type 0
  Within l = (i : ℕ) → p ≤ i → turns i l ≡ 0

  in_turn_lem : (l : List ℕ) → Within l → (a : A) → Good a → run step l a ≡ in_turn (λ i. turns i l) p a
  unfolding run turns Within loop
  in_turn_lem [] within a good = sym (loop_idle _ 0 p a (omega arith) (λ i le b. refl))
  in_turn_lem (j ∷ l) within a good =
      elim (dec_lt j p) [
        | yes lt ↦
            in_turn_lem l (λ i le. omega (arith, within i le)) (step j a) (keeps j lt a good)
            ∙ first_turn (λ i. turns i l) p j (omega arith) lt a good
        | no past ↦ absurd (omega (arith, within j (omega arith), turn_here (λ i. turns i l) j))
      ]

  pub any_order : (n : ℕ) (l : List ℕ) → Schedule p n l → (a : A) → Good a → run step l a ≡ loop (λ i. loop (λ k. step i) n) p a
  unfolding Within
  any_order n l order a good = in_turn_lem l order.others a good ∙ same_turn (λ i. turns i l) (λ i. n) p order.each a
