-- Which refusal is given, and the counts, depend on lengths, T, R, C, ρ and ω alone: two calls with the same of these get the same
-- answer, whatever their bytes and words and whichever their mixers are. The counts do not depend on ω. What is absorbed as the input
-- depends on none of ρ, ω and the mixer, and the state after it on the mixer alone of them. Assumes nothing.
use mathlib.Core.Path.{◌≡◌, refl, sym, ◌∙◌}
use Prim.Native.Nat.{ℕ}
use mathlib.Core.List.{List}
use lib.ListN.{length}
use Rattle.mixer.specs.declared.Mixer.{Mixer}
use Rattle.settings.specs.declared.Parameters.{Parameters}
use Rattle.settings.specs.declared.Lengths.{Lengths}
use Rattle.settings.specs.Settings.{settings}
use Rattle.input.specs.Input.{Input, lengths, padded_input, input_state}
use Rattle.refusals.specs.Checks.{first, cost_checks, plain_checks, recorded_checks}
use Rattle.derivation.specs.Answers.{Costs, spent_on, costs, cost_answer}
use Rattle.derivation.specs.Promises.{Derived, Compared, Recorded}
use Rattle.derivation.proofs.Answering.{cost_yes, accepted_number}

-- the same numbers with a mixer, and with other ρ and ω
abbrev pub mixed_by : Mixer → Parameters → Parameters
mixed_by v p = record { time = p.time; rows = p.rows; columns = p.columns; rounds = p.rounds; rotation = p.rotation; mixer = v }

abbrev pub changed : ℕ → ℕ → Parameters → Parameters
changed ρ ω p = record { time = p.time; rows = p.rows; columns = p.columns; rounds = ρ; rotation = ω; mixer = p.mixer }

-- ---- calls by lengths and numbers
module _ (p : Parameters) (v w : Mixer) where
  cost_unmixed : (number : ℕ) (l : Lengths) → cost_answer number l (mixed_by v p) ≡ cost_answer number l (mixed_by w p)
  unfolding cost_answer costs spent_on
  cost_unmixed number l = refl

  -- the cost question takes nothing but these
  pub cost_by_lengths : (l : Lengths) (r₁ r₂ : Costs) → r₁ ≡ cost_answer (first (cost_checks l (mixed_by v p))) l (mixed_by v p)
      → r₂ ≡ cost_answer (first (cost_checks l (mixed_by w p))) l (mixed_by w p) → r₁ ≡ r₂
  unfolding cost_checks
  cost_by_lengths l r₁ r₂ e f = e ∙ cost_unmixed _ l ∙ sym f

  module _ (x y : Input) (same : lengths x ≡ lengths y) (matrix₁ matrix₂ : List ℕ) (m : length matrix₁ ≡ length matrix₂) where
    plain : {r₁ r₂ : Costs} → r₁ ≡ cost_answer (first (plain_checks (lengths x) (mixed_by v p) (length matrix₁))) (lengths x) (mixed_by v p)
        → r₂ ≡ cost_answer (first (plain_checks (lengths y) (mixed_by w p) (length matrix₂))) (lengths y) (mixed_by w p) → r₁ ≡ r₂
    unfolding plain_checks cost_checks
    plain e f = e ∙ cost_unmixed _ (lengths x) ∙ (λ i. cost_answer (first (plain_checks (same i) (mixed_by w p) (m i))) (same i) (mixed_by w p)) ∙ sym f

    pub derivation_by_lengths : (k₁ k₁' m₁' k₂ k₂' m₂' : List ℕ) (r₁ r₂ : Costs)
        → Derived (mixed_by v p) x k₁ matrix₁ k₁' m₁' r₁ → Derived (mixed_by w p) y k₂ matrix₂ k₂' m₂' r₂ → r₁ ≡ r₂
    derivation_by_lengths k₁ k₁' m₁' k₂ k₂' m₂' r₁ r₂ d₁ d₂ = plain d₁.answer d₂.answer

    pub check_by_lengths : (s₁ m₁' s₂ m₂' : List ℕ) (r₁ r₂ : Costs) (same₁ same₂ : ℕ)
        → Compared (mixed_by v p) x s₁ matrix₁ m₁' r₁ same₁ → Compared (mixed_by w p) y s₂ matrix₂ m₂' r₂ same₂ → r₁ ≡ r₂
    check_by_lengths s₁ m₁' s₂ m₂' r₁ r₂ same₁ same₂ d₁ d₂ = plain d₁.answer d₂.answer

    pub recorded_by_lengths : (k₁ v₁ k₁' m₁' v₁' k₂ v₂ k₂' m₂' v₂' : List ℕ) (r₁ r₂ : Costs) (s₁ s₂ : List ℕ) → length v₁ ≡ length v₂
        → Recorded (mixed_by v p) x k₁ matrix₁ v₁ k₁' m₁' v₁' r₁ s₁ → Recorded (mixed_by w p) y k₂ matrix₂ v₂ k₂' m₂' v₂' r₂ s₂ → r₁ ≡ r₂
    unfolding recorded_checks plain_checks cost_checks
    recorded_by_lengths k₁ v₁ k₁' m₁' v₁' k₂ v₂ k₂' m₂' v₂' r₁ r₂ s₁ s₂ e d₁ d₂ =
        d₁.answer ∙ cost_unmixed _ (lengths x) ∙ (λ i. cost_answer (first (recorded_checks (same i) (mixed_by w p) (m i) (e i))) (same i) (mixed_by w p)) ∙ sym d₂.answer

-- ---- what does not depend on ρ, on ω or on the mixer

-- the cost question takes ρ and no ω
pub cost_without_rotation : (l : Lengths) (p : Parameters) (ω : ℕ)
    → cost_answer (first (cost_checks l p)) l p ≡ cost_answer (first (cost_checks l (changed p.rounds ω p))) l (changed p.rounds ω p)
unfolding cost_answer costs spent_on cost_checks
cost_without_rotation l p ω = refl

-- neither do the counts of a derivation that is carried out, checked or recorded: they are its costs
pub counts_without_rotation : (l : Lengths) (p : Parameters) (ω n₁ n₂ : ℕ) (r₁ r₂ : Costs) → r₁ ≡ cost_answer n₁ l p → r₂ ≡ cost_answer n₂ l (changed p.rounds ω p)
    → r₁.refusal ≡ 0 → r₂.refusal ≡ 0 → r₁ ≡ r₂
unfolding costs spent_on
counts_without_rotation l p ω n₁ n₂ r₁ r₂ e₁ e₂ z₁ z₂ =
    let q = changed p.rounds ω p in
    e₁ ∙ sym (cost_yes l p (accepted_number l p e₁ z₁) refl) ∙ cost_yes l q (accepted_number l q e₂ z₂) refl ∙ sym e₂

-- what is absorbed as the input is the same for all ρ, ω and mixers, and the state after it for all ρ and ω
pub input_for_all_settings : (p : Parameters) (ρ ω : ℕ) (v : Mixer) (x : Input)
    → (padded_input (settings p) x ≡ padded_input (settings (mixed_by v (changed ρ ω p))) x) × (input_state (settings p) x ≡ input_state (settings (changed ρ ω p)) x)
unfolding padded_input input_state
input_for_all_settings p ρ ω v x = (refl, refl)
