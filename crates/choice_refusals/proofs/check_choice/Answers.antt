-- The lengths, then check by check in the order of the list. Assumes nothing.
use Rattle.std.proofs.Common.{ℕ, [], ◌∷◌, sym, ap, ◌∙◌, arith}
use Rattle.refusals.specs.Checks.{at_least, first, length_checks, cells_check, choice_checks}
use Rattle.refusals.proofs.Accepted.{accepted}
use Rattle.refusals.proofs.Chained.{handed_on, refused, passed}
use Rattle.choice.specs.Choice.{cell_limit}
use Rattle.choice_refusals.proofs.check_choice.Goals as goal

pub returns-in_err-check_lengths : goal.returns-in_err-check_lengths
unfolding choice_checks
returns-in_err-check_lengths c = handed_on _ _ c.from_residual.ensures (refused (length_checks _) _ c.in_err-check_lengths.ensures)

pub returns-in_err-within : goal.returns-in_err-within
unfolding choice_checks
returns-in_err-within c =
    handed_on _ _ c.from_residual-in_err-within.ensures
    (λ h. passed (length_checks _) _ (omega arith) c.in_ok-check_lengths.ensures (refused (_ ∷ []) _ c.in_err-within.ensures h))

pub returns-in_err-at_least : goal.returns-in_err-at_least
unfolding choice_checks
returns-in_err-at_least c =
    handed_on _ _ c.from_residual-in_err-at_least.ensures
    (λ h. passed (length_checks _) _ (omega arith) c.in_ok-check_lengths.ensures
    (passed (_ ∷ []) _ (omega arith) c.in_ok-within.ensures (refused (_ ∷ []) _ c.in_err-at_least.ensures h)))

pub cell_limit-requires : goal.cell_limit-requires
cell_limit-requires c =
    let lengths = accepted (length_checks c.args.l) (omega arith) (sym c.in_ok-check_lengths.ensures) in
    let rounds = accepted (_ ∷ []) (omega arith) (sym c.in_ok-within.ensures) in
    omega (arith, lengths, rounds)

pub returns : goal.returns
unfolding choice_checks
returns c =
    let a = c.args in
    passed (length_checks _) _ (omega arith) c.in_ok-check_lengths.ensures
    (passed (_ ∷ []) _ (omega arith) c.in_ok-within.ensures
    (passed (_ ∷ []) (cells_check (cell_limit a.l a.g) ∷ []) (omega arith) c.in_ok-at_least.ensures
    (c.at_least-2.ensures ∙ ap (λ (n : ℕ). first (at_least 16 3 n ∷ [])) c.cell_limit.ensures)))
