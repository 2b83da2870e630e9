-- Which refusal a call with several lanes gets, and its counts, depend on the lengths, T, R, C and p alone. Assumes nothing.
use mathlib.Core.Path.{◌≡◌, sym, ◌∙◌}
use Prim.Native.Nat.{ℕ}
use mathlib.Core.List.{List}
use lib.ListN.{length}
use Rattle.settings.specs.declared.StoredParameters.{StoredParameters}
use Rattle.input.specs.Input.{Input, lengths}
use Rattle.refusals.specs.Checks.{first, lanes_checks}
use Rattle.derivation.specs.Answers.{Costs}
use Rattle.lanes_derivation.specs.LanesCosts.{lanes_answer}
use Rattle.lanes_derivation.specs.LanesContracts.{LanesDerived, LanesCompared}

module _ (q : StoredParameters) (lanes : ℕ) (x y : Input) (same : lengths x ≡ lengths y) (m₁ m₂ : List ℕ) (as_long : length m₁ ≡ length m₂) where
  answers_same : {r₁ r₂ : Costs} → r₁ ≡ lanes_answer (first (lanes_checks (lengths x) q lanes (length m₁))) (lengths x) q lanes
      → r₂ ≡ lanes_answer (first (lanes_checks (lengths y) q lanes (length m₂))) (lengths y) q lanes → r₁ ≡ r₂
  answers_same e f = e ∙ (λ i. lanes_answer (first (lanes_checks (same i) q lanes (as_long i))) (same i) q lanes) ∙ sym f

  pub lanes_derivation_by_lengths : (k₁ k₁' m₁' k₂ k₂' m₂' : List ℕ) (r₁ r₂ : Costs) → LanesDerived q lanes x k₁ m₁ k₁' m₁' r₁ → LanesDerived q lanes y k₂ m₂ k₂' m₂' r₂ → r₁ ≡ r₂
  lanes_derivation_by_lengths k₁ k₁' m₁' k₂ k₂' m₂' r₁ r₂ d e = answers_same d.answer e.answer

  pub lanes_check_by_lengths : (k₁ m₁' k₂ m₂' : List ℕ) (r₁ r₂ : Costs) (s₁ s₂ : ℕ) → LanesCompared q lanes x k₁ m₁ m₁' r₁ s₁ → LanesCompared q lanes y k₂ m₂ m₂' r₂ s₂ → r₁ ≡ r₂
  lanes_check_by_lengths k₁ m₁' k₂ m₂' r₁ r₂ s₁ s₂ d e = answers_same d.answer e.answer
