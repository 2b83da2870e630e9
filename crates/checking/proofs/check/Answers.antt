-- A refusal that touches nothing, or the run and then the comparison. Assumes nothing.
use Rattle.std.proofs.Common.{ℕ, length, sym, ap, ◌∙◌, arith}
use Rattle.settings.specs.declared.Parameters.{Parameters}
use Rattle.settings.specs.declared.Lengths.{Lengths}
use Rattle.key.specs.Key.{same_bytes}
use Rattle.refusals.specs.Checks.{first, plain_checks}
use Rattle.refusals.proofs.Accepted.{plain_accepted}
use Rattle.refusals.proofs.Chained.{handed_is, answered_refused}
use Rattle.derivation.specs.Answers.{flag}
use Rattle.derivation.proofs.Answering.{answered-yes, cost_refused, cost_yes}
use Rattle.runs.proofs.Ends.{key_after, counts_fit, costs_after}
use Rattle.checking.specs.Answers.{checked_costs, checked_same}
use Rattle.checking.proofs.check.Goals as goal

-- what the checks say of the lengths that the code has gathered
abbrev number_at : Parameters → ℕ → Lengths → ℕ
number_at p words l = first (plain_checks l p words)

pub returns-in_err-check_room : goal.returns-in_err-check_room
returns-in_err-check_room c =
    let a = c.args in
    let e = c.in_err-check_room.ensures ∙ ap (number_at a.p (length a.matrix.now)) c.lengths_of-l.ensures in
    let handed = handed_is _ _ c.from_residual.ensures in
    record {
      answer = ap checked_costs handed ∙ cost_refused _ _ _ e;
      same_is = ap checked_same handed ∙ answered_refused _ e _ _;
      matrix_after = answered_refused _ e _ _;
    }

pub run_plain-ran-requires : goal.run_plain-ran-requires
run_plain-ran-requires c =
    let a = c.args in
    plain_accepted _ _ _ (sym (c.in_ok-check_room.ensures ∙ ap (number_at a.p (length a.matrix.now)) c.lengths_of-l.ensures))

pub overflow_add-ran : goal.overflow_add-ran
overflow_add-ran c =
    let a = c.args in
    let none = sym (c.in_ok-check_room.ensures ∙ ap (number_at a.p (length a.matrix.now)) c.lengths_of-l.ensures) in
    let run = c.run_plain-ran.ensures in
    let between = c.clear_run-calls.ensures.0 ∙ c.compare-c.ensures.2 in
    omega (arith, counts_fit _ _ _ (plain_accepted _ _ _ none) run.full between run.reduced)

pub spent-spent-requires : goal.spent-spent-requires
spent-spent-requires c =
    let a = c.args in
    let none = sym (c.in_ok-check_room.ensures ∙ ap (number_at a.p (length a.matrix.now)) c.lengths_of-l.ensures) in
    let run = c.run_plain-ran.ensures in
    let between = c.clear_run-calls.ensures.0 ∙ c.compare-c.ensures.2 in
    omega (arith, counts_fit _ _ _ (plain_accepted _ _ _ none) run.full between run.reduced)

pub returns : goal.returns
returns c =
    let a = c.args in
    let none = sym (c.in_ok-check_room.ensures ∙ ap (number_at a.p (length a.matrix.now)) c.lengths_of-l.ensures) in
    let run = c.run_plain-ran.ensures in
    let key = c.compare-c.ensures in
    let between = c.clear_run-calls.ensures.0 ∙ key.2 in
    record {
      answer = cost_yes _ _ none (costs_after _ _ _ (plain_accepted _ _ _ none) run.full between run.reduced c.spent-spent.ensures);
      same_is = answered-yes _ _ none (ap flag (key.0 ∙ ap (same_bytes _) (key_after a.p _ _ run.state_is)));
      matrix_after = answered-yes _ _ none run.matrix_is;
    }
