-- Demand 3: of two accepted recorded derivations with the same T, R, C, ρ, ω and mixer, whatever their buffers held and however long
-- they are, whose padded inputs have equally many blocks of which at most one differs, the returned states, the used matrices and the
-- used records are all equal exactly when passwords, salts and key lengths are. It speaks of any two calls that met the contract of
-- `recorded::derive_recorded`. Assumes nothing.
use mathlib.Core.Path.{◌≡◌, sym, ap, subst₂, ◌∙◌}
use mathlib.Core.Logic.{◌↔◌}
use Prim.Native.Nat.{ℕ}
use native.Mathlib.Omega.{arith}
use lib.ListN.{length, take}
use Rattle.lists.specs.Zip.{put_into}
use Rattle.lists.proofs.ZipLaws.{put_front}
use Rattle.mixer.proofs.Additions.{undoes}
use Rattle.settings.specs.Settings.{settings}
use Rattle.settings.specs.Sizes.{matrix_words, record_words, visit_count}
use Rattle.settings.specs.declared.Parameters.{Parameters}
use Rattle.input.specs.Input.{lengths, input_state}
use Rattle.visits.specs.Wandered.{Packable}
use Rattle.visits.proofs.Recording.{length-visits}
use Rattle.refusals.specs.Checks.{Accepted, cost_checks, plain_checks, recorded_checks}
use Rattle.refusals.proofs.Accepted.{accepted}
use Rattle.derivation.specs.Derivation.{setup_end, end_record}
use Rattle.derivation.specs.Promises.{recorded_number}
use Rattle.derivation.proofs.Answering.{answered_is, accepted_number}
use Rattle.end_states.specs.EndStates.{End, EndAlike, StartAlike, AtMostOneDiffers, end_of}
use Rattle.end_states.specs.Trials.{Trial, input_of, left_by}
use Rattle.end_states.proofs.EndStates.{Fits, end_states_tell_inputs}

-- ---- what a trial leaves is what the definitions say
module _ {p : Parameters} (x : Trial p) where
  none : recorded_number p (input_of x) x.matrix x.visited ≡ 0
  none = accepted_number (lengths (input_of x)) p x.meets.answer x.accepted

  bounds_of : Accepted (recorded_checks (lengths (input_of x)) p (length x.matrix) (length x.visited))
  unfolding recorded_checks plain_checks cost_checks
  bounds_of = accepted _ (omega arith) none

  -- R is at most 16,384 and C at most 256
  pub packable_of : Packable (settings p)
  unfolding recorded_checks plain_checks cost_checks
  packable_of = omega (arith, bounds_of)

  fits_of : Fits (settings p) (input_of x) x.matrix
  unfolding recorded_checks plain_checks cost_checks
  fits_of =
      record {
        key_fits = omega (arith, bounds_of);
        password_fits = omega (arith, bounds_of);
        password_bytes = x.password_bytes;
        salt_bytes = x.salt_bytes;
        room = omega (arith, bounds_of);
      }

  length_of : length (end_record (settings p) (input_of x) x.matrix) ≡ record_words (settings p)
  unfolding end_record
  length_of = length-visits (settings p) (setup_end (settings p) (input_state (settings p) (input_of x)) x.matrix) (visit_count (settings p))

  pub end_of_lem : ◌≡◌ {A = End} (left_by x) (end_of (settings p) (input_of x) x.matrix)
  unfolding end_of recorded_checks plain_checks cost_checks
  end_of_lem =
      let l = end_record (settings p) (input_of x) x.matrix in
      let records =
      ap (take (record_words (settings p))) (answered_is _ _ none x.meets.visited_after)
      ∙ ap (λ (n : ℕ). take n (put_into x.visited l)) (sym length_of) ∙ put_front x.visited l (omega (arith, length_of, bounds_of)) in
      λ i. record {
        state = answered_is _ _ none x.meets.state_is i;
        matrix = take (matrix_words (settings p)) (answered_is _ _ none x.meets.matrix_after i);
        visited = records i;
      }

-- ---- the theorem

pub end_states_settle_inputs : (p : Parameters) (b : ℕ) (x y : Trial p) → AtMostOneDiffers (settings p) b (input_of x) (input_of y)
    → EndAlike (left_by x) (left_by y) ↔ StartAlike (input_of x) (input_of y)
unfolding recorded_checks plain_checks cost_checks
end_states_settle_inputs p b x y h =
    subst₂ (λ (e f : End). EndAlike e f ↔ StartAlike (input_of x) (input_of y)) (sym (end_of_lem x)) (sym (end_of_lem y))
    (end_states_tell_inputs (settings p) (undoes p.mixer) (omega (arith, bounds_of x)) (packable_of x) b (input_of x) (input_of y) x.matrix y.matrix
    (fits_of x) (fits_of y) h)
