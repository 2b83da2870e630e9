-- T = 0: no visit is made. What is returned and left is what Setup left, the record is empty, and the last cell is (R - 1, 0). Assumes
-- nothing.
use mathlib.Core.Path.{◌≡◌, ap, ◌∙◌}
use Prim.Native.Nat.{ℕ, ◌+◌, ◌-◌, ◌*◌}
use native.Mathlib.Omega.{arith}
use mathlib.Core.List.{List, []}
use Rattle.lists.specs.Loop.{loop}
use Rattle.profile.specs.Profile.{full_rounds}
use Rattle.sponge.specs.Sponge.{absorb}
use Rattle.settings.specs.Settings.{Settings}
use Rattle.settings.specs.Sizes.{visit_count}
use Rattle.input.specs.Input.{Input, input_state}
use Rattle.matrix.specs.Cells.{cell_at}
use Rattle.columns.specs.Columns.{Work, work}
use Rattle.setup.specs.Setup.{setup}
use Rattle.visits.specs.Visits.{Walk, wander, visits}
use Rattle.visits.specs.Encoding.{encode}
use Rattle.key.specs.Key.{key_bytes}
use Rattle.derivation.specs.Cost.{reduced_cost}
use Rattle.derivation.specs.Derivation.{setup_end, walk_end, final_state, key_of, end_state, end_matrix, end_record}

module _ (S : Settings) (zero-time : S.time ≡ 0) (x : Input) (m : List ℕ) where
  -- what Setup leaves
  abbrev left : Work
  left = setup S (work (input_state S x) m)

  no_visits : visit_count S ≡ 0
  no_visits = ap (λ (T : ℕ). S.rows * T) zero-time ∙ omega arith

  ends : walk_end S x m ≡ setup_end S (input_state S x) m
  unfolding walk_end wander loop
  ends = ap (λ (n : ℕ). wander S n (setup_end S (input_state S x) m)) no_visits

  pub state_of_setup : end_state S x m ≡ left.state
  unfolding end_state setup_end
  state_of_setup = ap (λ (w : Walk). w.done.state) ends

  pub matrix_of_setup : end_matrix S x m ≡ left.matrix
  unfolding end_matrix setup_end
  matrix_of_setup = ap (λ (w : Walk). w.done.matrix) ends

  pub empty_record : end_record S x m ≡ []
  unfolding end_record encode visits
  empty_record = ap (λ (n : ℕ). encode (visits S n (setup_end S (input_state S x) m))) no_visits

  pub key_of_setup : key_of S x m
      ≡ key_bytes S.addition.sum x.key_length (absorb S.addition.sum full_rounds (cell_at S.columns (S.rows - 1) 0 left.matrix) left.state)
  unfolding key_of final_state setup_end
  key_of_setup = ap (λ (w : Walk). key_bytes S.addition.sum x.key_length (final_state S w)) ends

  pub calls_of_setup : reduced_cost S ≡ S.rows * S.columns
  calls_of_setup = ap (λ (T : ℕ). S.rows * S.columns * (T + 1)) zero-time ∙ omega arith
