-- The lengths, then check by check in the order of the list. Assumes nothing.
use Rattle.std.proofs.Common.{[], ◌∷◌, arith}
use Rattle.refusals.specs.Checks.{length_checks, cost_checks}
use Rattle.refusals.proofs.Chained.{handed_on, refused, passed}
use Rattle.refusals.proofs.check_costs.Goals as goal

pub returns-in_err-check_lengths : goal.returns-in_err-check_lengths
unfolding cost_checks
returns-in_err-check_lengths c = handed_on _ _ c.from_residual.ensures (refused (length_checks _) _ c.in_err-check_lengths.ensures)

pub returns-in_err-within : goal.returns-in_err-within
unfolding cost_checks
returns-in_err-within c =
    handed_on _ _ c.from_residual-in_err-within.ensures
    (λ h. passed (length_checks _) _ (omega arith) c.in_ok-check_lengths.ensures (refused (_ ∷ []) _ c.in_err-within.ensures h))

pub returns-in_err-within-2 : goal.returns-in_err-within-2
unfolding cost_checks
returns-in_err-within-2 c =
    handed_on _ _ c.from_residual-in_err-within-2.ensures
    (λ h. passed (length_checks _) _ (omega arith) c.in_ok-check_lengths.ensures
    (passed (_ ∷ []) _ (omega arith) c.in_ok-within.ensures (refused (_ ∷ []) _ c.in_err-within-2.ensures h)))

pub returns-in_err-within-3 : goal.returns-in_err-within-3
unfolding cost_checks
returns-in_err-within-3 c =
    handed_on _ _ c.from_residual-in_err-within-3.ensures
    (λ h. passed (length_checks _) _ (omega arith) c.in_ok-check_lengths.ensures
    (passed (_ ∷ []) _ (omega arith) c.in_ok-within.ensures
    (passed (_ ∷ []) _ (omega arith) c.in_ok-within-2.ensures (refused (_ ∷ []) _ c.in_err-within-3.ensures h))))

pub returns : goal.returns
unfolding cost_checks
returns c =
    passed (length_checks _) _ (omega arith) c.in_ok-check_lengths.ensures
    (passed (_ ∷ []) _ (omega arith) c.in_ok-within.ensures
    (passed (_ ∷ []) _ (omega arith) c.in_ok-within-2.ensures (passed (_ ∷ []) _ (omega arith) c.in_ok-within-3.ensures c.within-4.ensures)))
