-- What a derivation's parts leave together: the run to the last visit, the last cell, and the calls between pieces of the key. Assumes
-- nothing.
use mathlib.Core.Path.{◌≡◌, ap, ap₂, ◌∙◌}
use Prim.Native.Nat.{ℕ, ◌+◌, ◌≤◌, ◌<◌, ◌^◌}
use native.Mathlib.Omega.{arith}
use mathlib.Core.List.{List}
use lib.ListN.{length}
use Rattle.lists.specs.Zip.{cleared}
use Rattle.mixer.specs.Mixers.{sum_of}
use Rattle.settings.specs.Settings.{settings}
use Rattle.settings.specs.Sizes.{matrix_words}
use Rattle.settings.specs.declared.Parameters.{Parameters}
use Rattle.settings.specs.declared.Lengths.{Lengths}
use Rattle.padded_input.specs.Padded.{blocks}
use Rattle.input.specs.Input.{Input, lengths, input_blocks}
use Rattle.columns.specs.Columns.{work}
use Rattle.visits.specs.Visits.{Walk, walk}
use Rattle.key.specs.Key.{key_bytes, calls_between}
use Rattle.refusals.specs.Checks.{Accepted, cost_checks, plain_checks}
use Rattle.derivation.specs.Answers.{Costs, spent_on, costs}
use Rattle.derivation.specs.Cost.{full_cost, reduced_cost}
use Rattle.derivation.specs.Derivation.{walk_end, final_state, key_of, end_state, end_matrix}
use Rattle.derivation.proofs.Answering.{full_most, reduced_most, full_calls_lem}
use Rattle.derivation.proofs.UsedMatrix.{cleared_end}
use Rattle.runs.specs.Runs.{Run}
use Rattle.runs.specs.declared.Ran.{Ran}

-- ---- what a run leaves, and the last cell
module _ {p : Parameters} {x : Input} {m xs s' m' xs' : List ℕ} {r : Ran} (run : Run p x m xs s' m' xs' r) where
  pub state_after : s' ≡ end_state (settings p) x m
  unfolding end_state
  state_after = ap (λ (w : Walk). w.done.state) run.walked

  pub matrix_after : m' ≡ end_matrix (settings p) x m
  unfolding end_matrix
  matrix_after = ap (λ (w : Walk). w.done.matrix) run.walked

  pub finished : {s : List ℕ} → s ≡ final_state (settings p) (walk (work s' m') r.row0.0 r.row1.0)
      → s ≡ final_state (settings p) (walk_end (settings p) x m)
  finished e = e ∙ ap (final_state (settings p)) run.walked

  pub full_with_last : {full : ℕ} → full ≡ r.full + 1 → full ≡ input_blocks (lengths x) + 1
  full_with_last e = e ∙ ap (λ (n : ℕ). n + 1) run.full

  module _ (h : Accepted (plain_checks (lengths x) p (length m))) where
    -- what the last cell asks for
    pub can_finish : length m' ≡ length m
        → (1 ≤ p.columns) × (r.row0.0 < p.rows) × (r.row1.0 < p.rows) × (matrix_words (settings p) ≤ length m') × (r.full < 2 ^ 32)
    unfolding plain_checks cost_checks input_blocks blocks
    can_finish e = (omega arith, run.row0_lt, run.row1_lt, omega arith, omega (arith, run.full))

    -- the matrix cleared after the run is the matrix before it, cleared
    pub cleared_after : {l : List ℕ} → l ≡ cleared (matrix_words (settings p)) m' → l ≡ cleared (matrix_words (settings p)) m
    unfolding plain_checks cost_checks
    cleared_after e = e ∙ ap (cleared (matrix_words (settings p))) matrix_after ∙ cleared_end (settings p) (omega arith) x m

-- ---- the key
pub key_after : (p : Parameters) (x : Input) (m : List ℕ) {s : List ℕ} → s ≡ final_state (settings p) (walk_end (settings p) x m)
    → key_bytes (sum_of p.mixer) x.key_length s ≡ key_of (settings p) x m
unfolding key_of
key_after p x m e = ap (key_bytes (sum_of p.mixer) x.key_length) e

-- ---- the costs: the full calls up to the last cell's, those between pieces of the key, and the reduced ones
module _ (l : Lengths) (p : Parameters) (words : ℕ) (h : Accepted (plain_checks l p words)) {full between reduced : ℕ}
    (last : full ≡ input_blocks l + 1) (calls : between ≡ calls_between l.key) (walked : reduced ≡ reduced_cost (settings p)) where
  checks : Accepted (cost_checks l p)
  unfolding plain_checks cost_checks
  checks = omega arith

  full_is : full + between ≡ full_cost l
  full_is = full_calls_lem l p checks last calls

  -- the counts are far below a word
  pub counts_fit : (full + between ≤ 64) × (reduced ≤ 1073741824) × (p.rounds ≤ 12)
  unfolding plain_checks cost_checks
  counts_fit = (omega (arith, full_is, full_most l (omega arith)), omega (arith, walked, reduced_most l p checks), omega arith)

  pub costs_after : {c : Costs} → c ≡ spent_on (settings p) (full + between) reduced → c ≡ costs l p
  unfolding costs
  costs_after f = f ∙ ap₂ (spent_on (settings p)) full_is walked
