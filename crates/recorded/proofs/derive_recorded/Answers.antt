-- A refusal that touches nothing, or the run, the last cell and then the key. Assumes nothing.
use Rattle.std.proofs.Common.{ℕ, length, sym, ap, ◌∙◌, arith}
use Rattle.settings.specs.declared.Parameters.{Parameters}
use Rattle.settings.specs.declared.Lengths.{Lengths}
use Rattle.refusals.specs.Checks.{first, recorded_checks}
use Rattle.refusals.proofs.Accepted.{recorded_accepted}
use Rattle.refusals.proofs.Chained.{handed_is, answered_refused}
use Rattle.derivation.proofs.Answering.{answered-yes, cost_refused, cost_yes}
use Rattle.runs.proofs.Ends.{state_after, matrix_after, finished, full_with_last, can_finish, key_after, counts_fit, costs_after}
use Rattle.recorded.specs.Answers.{recorded_costs, recorded_state}
use Rattle.recorded.proofs.derive_recorded.Goals as goal

-- what the checks say of the lengths that the code has gathered
abbrev number_at : Parameters → ℕ → ℕ → Lengths → ℕ
number_at p words visits l = first (recorded_checks l p words visits)

pub returns-in_err-check_recorded_room : goal.returns-in_err-check_recorded_room
returns-in_err-check_recorded_room c =
    let a = c.args in
    let e = c.in_err-check_recorded_room.ensures ∙ ap (number_at a.p (length a.matrix.now) (length a.«record».now)) c.lengths_of-l.ensures in
    let handed = handed_is _ _ c.from_residual.ensures in
    record {
      answer = ap recorded_costs handed ∙ cost_refused _ _ _ e;
      state_is = ap recorded_state handed ∙ answered_refused _ e _ _;
      key_after = answered_refused _ e _ _;
      matrix_after = answered_refused _ e _ _;
      visited_after = answered_refused _ e _ _;
    }

pub run-ran-requires : goal.run-ran-requires
run-ran-requires c =
    let a = c.args in
    recorded_accepted _ _ _ _ (sym (c.in_ok-check_recorded_room.ensures ∙ ap (number_at a.p (length a.matrix.now) (length a.«record».now)) c.lengths_of-l.ensures))

pub finish-full-requires : goal.finish-full-requires
finish-full-requires c =
    let a = c.args in
    let none = sym (c.in_ok-check_recorded_room.ensures ∙ ap (number_at a.p (length a.matrix.now) (length a.«record».now)) c.lengths_of-l.ensures) in
    can_finish c.run-ran.ensures (recorded_accepted _ _ _ _ none) (omega (arith, c.run-ran.auto))

pub overflow_add-full : goal.overflow_add-full
overflow_add-full c =
    let a = c.args in
    let none = sym (c.in_ok-check_recorded_room.ensures ∙ ap (number_at a.p (length a.matrix.now) (length a.«record».now)) c.lengths_of-l.ensures) in
    let run = c.run-ran.ensures in
    let between = c.clear_run-calls.ensures.0 ∙ c.squeeze-between.ensures.2 in
    omega (arith, counts_fit _ _ _ (recorded_accepted _ _ _ _ none) (full_with_last run c.finish-full.ensures.0) between run.reduced)

pub spent-spent-requires : goal.spent-spent-requires
spent-spent-requires c =
    let a = c.args in
    let none = sym (c.in_ok-check_recorded_room.ensures ∙ ap (number_at a.p (length a.matrix.now) (length a.«record».now)) c.lengths_of-l.ensures) in
    let run = c.run-ran.ensures in
    let between = c.clear_run-calls.ensures.0 ∙ c.squeeze-between.ensures.2 in
    omega (arith, counts_fit _ _ _ (recorded_accepted _ _ _ _ none) (full_with_last run c.finish-full.ensures.0) between run.reduced)

pub returns : goal.returns
returns c =
    let a = c.args in
    let none = sym (c.in_ok-check_recorded_room.ensures ∙ ap (number_at a.p (length a.matrix.now) (length a.«record».now)) c.lengths_of-l.ensures) in
    let run = c.run-ran.ensures in
    let last = c.finish-full.ensures in
    let key = c.squeeze-between.ensures in
    let between = c.clear_run-calls.ensures.0 ∙ key.2 in
    record {
      answer = cost_yes _ _ none (costs_after _ _ _ (recorded_accepted _ _ _ _ none) (full_with_last run last.0) between run.reduced c.spent-spent.ensures);
      state_is = answered-yes _ _ none (state_after run);
      key_after = answered-yes _ _ none (key.0 ∙ key_after a.p _ _ (finished run last.1));
      matrix_after = answered-yes _ _ none (matrix_after run);
      visited_after = answered-yes _ _ none run.noted;
    }
