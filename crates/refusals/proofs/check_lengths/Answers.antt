-- Check by check, in the order of the list. Assumes nothing.
use Rattle.std.proofs.Common.{[], ◌∷◌, arith}
use Rattle.refusals.proofs.Chained.{handed_on, refused, passed}
use Rattle.refusals.proofs.check_lengths.Goals as goal

pub returns-in_err-within : goal.returns-in_err-within
returns-in_err-within c = handed_on _ _ c.from_residual.ensures (refused (_ ∷ []) _ c.in_err-within.ensures)

pub returns-in_err-within-2 : goal.returns-in_err-within-2
returns-in_err-within-2 c =
    handed_on _ _ c.from_residual-in_err-within-2.ensures
    (λ h. passed (_ ∷ []) _ (omega arith) c.in_ok-within.ensures (refused (_ ∷ []) _ c.in_err-within-2.ensures h))

pub returns-in_err-at_least : goal.returns-in_err-at_least
returns-in_err-at_least c =
    handed_on _ _ c.from_residual-in_err-at_least.ensures
    (λ h. passed (_ ∷ []) _ (omega arith) c.in_ok-within.ensures
    (passed (_ ∷ []) _ (omega arith) c.in_ok-within-2.ensures (refused (_ ∷ []) _ c.in_err-at_least.ensures h)))

pub returns : goal.returns
returns c =
    passed (_ ∷ []) _ (omega arith) c.in_ok-within.ensures
    (passed (_ ∷ []) _ (omega arith) c.in_ok-within-2.ensures (passed (_ ∷ []) _ (omega arith) c.in_ok-at_least.ensures c.within-3.ensures))
