-- What a call leaves in the lent matrix. The plain derivation and the check leave zeros in the used part, so that the matrix after them
-- tells nothing of password, salt and key; the recorded derivation keeps its end matrix. The words after the used part are kept by all
-- three. Assumes nothing.
use mathlib.Core.Path.{◌≡◌, sym, ap, ◌∙◌}
use Prim.Native.Nat.{ℕ}
use native.Mathlib.Omega.{arith}
use mathlib.Core.List.{List, ◌++◌}
use lib.ListN.{length, take, drop, replicate, take-append-drop}
use Rattle.lists.proofs.Cleared.{take-cleared, drop-cleared}
use Rattle.settings.specs.Settings.{settings}
use Rattle.settings.specs.Sizes.{matrix_words}
use Rattle.settings.specs.declared.Parameters.{Parameters}
use Rattle.input.specs.Input.{Input, lengths}
use Rattle.refusals.specs.Checks.{cost_checks, plain_checks, recorded_checks}
use Rattle.refusals.proofs.Accepted.{accepted}
use Rattle.derivation.specs.Promises.{plain_number, cleared_matrix, Derived, Compared, Recorded}
use Rattle.derivation.specs.Derivation.{end_matrix}
use Rattle.derivation.specs.Answers.{Costs}
use Rattle.derivation.proofs.Answering.{answered_is, accepted_number}
use Rattle.derivation.proofs.UsedMatrix.{words_after_kept}

-- words 0 to 12·R·C - 1 are zero, and the others as before
pub record NothingLeft (p : Parameters) (matrix matrix' : List ℕ) : Type 0 where
  pub used : take (matrix_words (settings p)) matrix' ≡ replicate (matrix_words (settings p)) 0
  pub rest : drop (matrix_words (settings p)) matrix' ≡ drop (matrix_words (settings p)) matrix

module _ (p : Parameters) where
  module _ (x : Input) (matrix matrix' : List ℕ) where
    left : plain_number p x matrix ≡ 0 → matrix' ≡ cleared_matrix p x matrix → NothingLeft p matrix matrix'
    unfolding plain_checks cost_checks
    left none after =
        let N = matrix_words (settings p) in
        let is = answered_is _ _ none after in
        let h = accepted (plain_checks (lengths x) p (length matrix)) (omega arith) none in
        record { used = ap (take N) is ∙ take-cleared N matrix (omega arith); rest = ap (drop N) is ∙ drop-cleared N matrix }

    pub derivation_leaves_nothing : (key key' : List ℕ) (r : Costs) → Derived p x key matrix key' matrix' r → r.refusal ≡ 0 → NothingLeft p matrix matrix'
    derivation_leaves_nothing key key' r d z = left (accepted_number (lengths x) p d.answer z) d.matrix_after

    pub check_leaves_nothing : (stored : List ℕ) (r : Costs) (same : ℕ) → Compared p x stored matrix matrix' r same → r.refusal ≡ 0 → NothingLeft p matrix matrix'
    check_leaves_nothing stored r same d z = left (accepted_number (lengths x) p d.answer z) d.matrix_after

  -- two calls over the same matrix, whatever their passwords, salts and keys are, leave the same one
  pub matrix_tells_nothing : (matrix matrix₁ matrix₂ : List ℕ) → NothingLeft p matrix matrix₁ → NothingLeft p matrix matrix₂ → matrix₁ ≡ matrix₂
  matrix_tells_nothing matrix matrix₁ matrix₂ a b =
      let N = matrix_words (settings p) in
      sym (take-append-drop N matrix₁) ∙ (λ i. (a.used ∙ sym b.used) i ++ (a.rest ∙ sym b.rest) i) ∙ take-append-drop N matrix₂

  -- the recorded derivation keeps its end matrix, and changes no word after it
  pub recorded_keeps : (x : Input) (key matrix visited key' matrix' visited' : List ℕ) (r : Costs) (state : List ℕ)
      → Recorded p x key matrix visited key' matrix' visited' r state → r.refusal ≡ 0
      → (matrix' ≡ end_matrix (settings p) x matrix) × (drop (matrix_words (settings p)) matrix' ≡ drop (matrix_words (settings p)) matrix)
  unfolding recorded_checks plain_checks cost_checks
  recorded_keeps x key matrix visited key' matrix' visited' r state d z =
      let none = accepted_number (lengths x) p d.answer z in
      let h = accepted (recorded_checks (lengths x) p (length matrix) (length visited)) (omega arith) none in
      let is = answered_is _ _ none d.matrix_after in
      (is, ap (drop (matrix_words (settings p))) is ∙ words_after_kept (settings p) (omega arith) x matrix)
