-- A refusal that touches nothing, or the run and then the key. Assumes nothing.
use Rattle.std.proofs.Common.{ℕ, length, sym, ap, ◌∙◌, arith}
use Rattle.settings.specs.declared.Parameters.{Parameters}
use Rattle.settings.specs.declared.Lengths.{Lengths}
use Rattle.refusals.specs.Checks.{first, plain_checks}
use Rattle.refusals.proofs.Accepted.{plain_accepted}
use Rattle.refusals.proofs.Chained.{handed_is, answered_refused}
use Rattle.derivation.specs.Answers.{costs_answer}
use Rattle.derivation.proofs.Answering.{answered-yes, cost_refused, cost_yes}
use Rattle.runs.proofs.Ends.{key_after, counts_fit, costs_after}
use Rattle.plain_deriving.proofs.derive.Goals as goal

-- what the checks say of the lengths that the code has gathered
abbrev number_at : Parameters → ℕ → Lengths → ℕ
number_at p words l = first (plain_checks l p words)

pub returns-in_err-check_room : goal.returns-in_err-check_room
returns-in_err-check_room c =
    let a = c.args in
    let e = c.in_err-check_room.ensures ∙ ap (number_at a.p (length a.matrix.now)) c.lengths_of-l.ensures in
    record {
      answer = ap costs_answer (handed_is _ _ c.from_residual.ensures) ∙ cost_refused _ _ _ e;
      key_after = answered_refused _ e _ _;
      matrix_after = answered_refused _ e _ _;
    }

pub run_plain-ran-requires : goal.run_plain-ran-requires
run_plain-ran-requires c =
    let a = c.args in
    plain_accepted _ _ _ (sym (c.in_ok-check_room.ensures ∙ ap (number_at a.p (length a.matrix.now)) c.lengths_of-l.ensures))

pub overflow_add-ran : goal.overflow_add-ran
overflow_add-ran c =
    let a = c.args in
    let none = sym (c.in_ok-check_room.ensures ∙ ap (number_at a.p (length a.matrix.now)) c.lengths_of-l.ensures) in
    let run = c.run_plain-ran.ensures in
    let between = c.clear_run-calls.ensures.0 ∙ c.squeeze-between.ensures.2 in
    omega (arith, counts_fit _ _ _ (plain_accepted _ _ _ none) run.full between run.reduced)

pub spent-requires : goal.spent-requires
spent-requires c =
    let a = c.args in
    let none = sym (c.in_ok-check_room.ensures ∙ ap (number_at a.p (length a.matrix.now)) c.lengths_of-l.ensures) in
    let run = c.run_plain-ran.ensures in
    let between = c.clear_run-calls.ensures.0 ∙ c.squeeze-between.ensures.2 in
    omega (arith, counts_fit _ _ _ (plain_accepted _ _ _ none) run.full between run.reduced)

pub returns : goal.returns
returns c =
    let a = c.args in
    let none = sym (c.in_ok-check_room.ensures ∙ ap (number_at a.p (length a.matrix.now)) c.lengths_of-l.ensures) in
    let run = c.run_plain-ran.ensures in
    let key = c.squeeze-between.ensures in
    let between = c.clear_run-calls.ensures.0 ∙ key.2 in
    record {
      answer = cost_yes _ _ none (costs_after _ _ _ (plain_accepted _ _ _ none) run.full between run.reduced c.spent.ensures);
      key_after = answered-yes _ _ none (key.0 ∙ key_after a.p _ _ run.state_is);
      matrix_after = answered-yes _ _ none run.matrix_is;
    }
