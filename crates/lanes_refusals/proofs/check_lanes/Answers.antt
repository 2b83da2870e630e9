-- The lengths, then check by check in the order of the list. Assumes nothing.
use Rattle.std.proofs.Common.{[], ◌∷◌, arith}
use Rattle.refusals.specs.Checks.{length_checks, lanes_cost_checks}
use Rattle.refusals.proofs.Chained.{handed_on, refused, passed}
use Rattle.lanes_refusals.proofs.check_lanes.Goals as goal

pub returns-in_err-check_lengths : goal.returns-in_err-check_lengths
unfolding lanes_cost_checks
returns-in_err-check_lengths c = handed_on _ _ c.from_residual.ensures (refused (length_checks _) _ c.in_err-check_lengths.ensures)

pub returns-in_err-within : goal.returns-in_err-within
unfolding lanes_cost_checks
returns-in_err-within c =
    handed_on _ _ c.from_residual-in_err-within.ensures
    (λ h. passed (length_checks _) _ (omega arith) c.in_ok-check_lengths.ensures (refused (_ ∷ []) _ c.in_err-within.ensures h))

pub returns-in_err-check_rows : goal.returns-in_err-check_rows
unfolding lanes_cost_checks
returns-in_err-check_rows c =
    handed_on _ _ c.from_residual-in_err-check_rows.ensures
    (λ h. passed (length_checks _) _ (omega arith) c.in_ok-check_lengths.ensures
    (passed (_ ∷ []) _ (omega arith) c.in_ok-within.ensures (refused (_ ∷ []) _ c.in_err-check_rows.ensures h)))

pub returns-in_err-within-2 : goal.returns-in_err-within-2
unfolding lanes_cost_checks
returns-in_err-within-2 c =
    handed_on _ _ c.from_residual-in_err-within-2.ensures
    (λ h. passed (length_checks _) _ (omega arith) c.in_ok-check_lengths.ensures
    (passed (_ ∷ []) _ (omega arith) c.in_ok-within.ensures
    (passed (_ ∷ []) _ (omega arith) c.in_ok-check_rows.ensures (refused (_ ∷ []) _ c.in_err-within-2.ensures h))))

pub returns : goal.returns
unfolding lanes_cost_checks
returns c =
    passed (length_checks _) _ (omega arith) c.in_ok-check_lengths.ensures
    (passed (_ ∷ []) _ (omega arith) c.in_ok-within.ensures
    (passed (_ ∷ []) _ (omega arith) c.in_ok-check_rows.ensures (passed (_ ∷ []) _ (omega arith) c.in_ok-within-2.ensures c.check_shares.ensures)))
