-- The two ways the costs are answered, and the bounds of the counts. Assumes nothing.
use mathlib.Core.Path.{◌≡◌, refl, sym, ap, ◌∙◌}
use Prim.Native.Nat.{ℕ, ◌+◌, ◌*◌, ◌≤◌}
use native.Mathlib.Omega.{arith}
use native.Mathlib.Nat.{le_trans, mul-le-mul, mul-add, mul-one, mul_right_comm, add_comm}
use Rattle.settings.specs.Settings.{settings}
use Rattle.settings.specs.declared.Parameters.{Parameters}
use Rattle.settings.specs.declared.Lengths.{Lengths}
use Rattle.padded_input.specs.Padded.{blocks}
use Rattle.input.specs.Input.{input_blocks}
use Rattle.key.specs.Key.{pieces, calls_between}
use Rattle.key.proofs.KeyLaws.{pieces_calls}
use Rattle.refusals.specs.Checks.{Accepted, length_checks, cost_checks}
use Rattle.refusals.proofs.Accepted.{cells_most}
use Rattle.refusals.proofs.Answered.{answered_number}
pub use Rattle.refusals.proofs.Answered.{answered-yes, answered_no, answered_is}
use Rattle.refusals.specs.declared.Refusal.{Refusal}
use Rattle.refusals.specs.Refusals.{number_of}
use Rattle.refusals.proofs.Chained.{number_above}
use Rattle.derivation.specs.Answers.{Costs, spent_on, no_costs, costs, cost_answer}
use Rattle.derivation.specs.Cost.{full_cost, reduced_cost, rounds_cost}

pub full_most : (l : Lengths) → Accepted (length_checks l) → full_cost l ≤ 64
unfolding full_cost input_blocks blocks pieces
full_most l h = omega arith

module _ (l : Lengths) (p : Parameters) where
  pub cost_no : {n number : ℕ} {r : Costs} → number ≡ n → (number ≡ 0 → ⊥) → r ≡ no_costs number → r ≡ cost_answer n l p
  unfolding cost_answer
  cost_no e h f = answered_no _ _ e h (f ∙ ap no_costs e)

  pub cost_yes : {n : ℕ} {r : Costs} → n ≡ 0 → r ≡ costs l p → r ≡ cost_answer n l p
  unfolding cost_answer
  cost_yes h f = answered-yes _ _ h f

  pub cost_refused : {n : ℕ} (r : Refusal) → number_of r ≡ n → no_costs (number_of r) ≡ cost_answer n l p
  cost_refused r e = cost_no e (λ z. omega (arith, number_above r)) refl

  -- the rounds spent, written out
  pub rounds_spent : (costs l p).rounds ≡ rounds_cost (settings p) (full_cost l) (reduced_cost (settings p))
  unfolding costs spent_on
  rounds_spent = refl

  -- an answer's number is that of the refusal
  pub number_is : (n : ℕ) → (cost_answer n l p).refusal ≡ n
  unfolding cost_answer costs spent_on no_costs
  number_is n = answered_number (λ (c : Costs). c.refusal) n (costs l p) (no_costs n) refl refl

  pub accepted_number : {n : ℕ} {r : Costs} → r ≡ cost_answer n l p → r.refusal ≡ 0 → n ≡ 0
  accepted_number {n} e z = sym (number_is n) ∙ ap (λ (c : Costs). c.refusal) (sym e) ∙ z

  -- ---- the counts of an accepted call
  module _ (h : Accepted (cost_checks l p)) where
    pub reduced_most : reduced_cost (settings p) ≤ 1073741824
    unfolding cost_checks
    reduced_most =
        let more : p.time + 1 ≤ 256 = omega arith in
        le_trans (mul-le-mul (cells_most p.rows p.columns (omega arith) (omega arith)) more) (omega arith)

    -- the full calls as they are made: those of the input, of the last cell, and between pieces of the key
    pub full_calls_lem : {full between : ℕ} → full ≡ input_blocks l + 1 → between ≡ calls_between l.key → full + between ≡ full_cost l
    unfolding full_cost cost_checks
    full_calls_lem e f = omega (arith, pieces_calls l.key (omega arith))

-- Setup's calls and those of the visits
pub calls_sum : (R C T : ℕ) → R * C + R * T * C ≡ R * C * (T + 1)
calls_sum R C T =
    ap (λ (n : ℕ). R * C + n) (mul_right_comm R T C) ∙ add_comm (R * C) (R * C * T)
    ∙ sym (mul-add (R * C) T 1 ∙ ap (λ (n : ℕ). R * C * T + n) (mul-one (R * C)))
