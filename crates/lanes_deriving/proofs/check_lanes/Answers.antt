-- A refusal that touches nothing, or the check. Assumes nothing.
use Rattle.std.proofs.Common.{ℕ, length, refl, sym, ap, ◌∙◌, arith}
use Rattle.settings.specs.declared.StoredParameters.{StoredParameters}
use Rattle.settings.specs.declared.Lengths.{Lengths}
use Rattle.refusals.specs.Checks.{first, lanes_checks}
use Rattle.refusals.proofs.Chained.{handed_is, answered_refused}
use Rattle.derivation.specs.Answers.{costs_of, flag}
use Rattle.derivation.proofs.Answering.{answered-yes}
use Rattle.checking.specs.Answers.{checked_costs, checked_same}
use Rattle.lanes_deriving.proofs.LanesEnds.{cost_yes, cost_refused, words_some, zero_left}
use Rattle.lanes_deriving.proofs.check_lanes.Goals as goal

-- what the checks say of the lengths that the code has gathered
abbrev number_at : StoredParameters → ℕ → ℕ → Lengths → ℕ
number_at q lanes words l = first (lanes_checks l q lanes words)

pub returns-in_err-check_lanes_room : goal.returns-in_err-check_lanes_room
returns-in_err-check_lanes_room c =
    let a = c.args in
    let e = c.in_err-check_lanes_room.ensures ∙ ap (number_at a.q a.lanes (length a.matrix.now)) c.lengths_of-l.ensures in
    let handed = handed_is _ _ c.from_residual.ensures in
    record {
      answer = ap checked_costs handed ∙ cost_refused _ _ _ _ e;
      same_is = ap checked_same handed ∙ answered_refused _ e _ _;
      matrix_after = answered_refused _ e _ _;
    }

pub take_accepted-done-requires : goal.take_accepted-done-requires
take_accepted-done-requires c =
    let a = c.args in
    sym (c.in_ok-check_lanes_room.ensures ∙ ap (number_at a.q a.lanes (length a.matrix.now)) c.lengths_of-l.ensures)

pub bounds-matrix-0 : goal.bounds-matrix-0
bounds-matrix-0 c = omega (arith, words_some _ _ _ _ (sym c.in_ok-check_lanes_room.ensures))

pub clear_below-spent-requires : goal.clear_below-spent-requires
clear_below-spent-requires c = zero_left _ _ _ _ (sym c.in_ok-check_lanes_room.ensures) _ c.take_accepted-done.ensures.matrix_is

pub returns : goal.returns
returns c =
    let a = c.args in
    let none = sym (c.in_ok-check_lanes_room.ensures ∙ ap (number_at a.q a.lanes (length a.matrix.now)) c.lengths_of-l.ensures) in
    let taken = c.take_accepted-done.ensures in
    record {
      answer = cost_yes _ _ _ none refl (ap costs_of c.clear_below-spent.ensures ∙ taken.answer);
      same_is = answered-yes _ _ none (ap flag (taken.same_is refl));
      matrix_after = answered-yes _ _ none taken.matrix_is;
    }
