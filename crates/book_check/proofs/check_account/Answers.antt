-- A refusal that touches nothing and says no, or the check of the account's key.
use Rattle.std.proofs.Common.{refl, sym, ap, ◌∙◌, arith, take, drop, ℕ}
use lib.Seq.{length-take-le}
use Rattle.refusals.proofs.Chained.{handed_is, number_above}
use Rattle.checking.specs.Answers.{checked_costs, checked_same}
use Rattle.little_endian.proofs.ByteLaws.{take_bytes}
use Rattle.accounts.specs.Accounts.{is_whole}
use Rattle.accounts.specs.Promises.{placed, no_place}
use Rattle.accounts.proofs.Changing.{found-whole}
use Rattle.accounts.proofs.Rewriting.{found_book, found-has, found_at}
use Rattle.book_check.proofs.Checks.{password_refused, find_refused, key_checked}
use Rattle.book_check.proofs.check_account.Goals as goal

pub returns-in_err-within : goal.returns-in_err-within
returns-in_err-within c =
    let a = c.args in
    let handed = handed_is _ _ c.from_residual.ensures in
    password_refused a.password.now a.book.now a.used a.number a.matrix.now c.in_err-within.ensures (number_above _) (ap checked_costs handed)
    (ap checked_same handed)

pub returns-in_err-place : goal.returns-in_err-place
unfolding no_place
returns-in_err-place c =
    let a = c.args in
    let handed = handed_is _ _ c.from_residual-in_err-place.ensures in
    find_refused a.password.now a.book.now a.used a.number a.matrix.now c.in_ok-within.ensures c.in_err-place.ensures
    (λ z. omega (arith, number_above c.in_err-place.field-0.0)) (ap checked_costs handed) (ap checked_same handed)

pub slice_bounds-check_at-end : goal.slice_bounds-check_at-end
unfolding placed
slice_bounds-check_at-end c = sym (length-take-le _ _ (found_book c.args.number c.args.used c.args.book.now c.in_ok-place.ensures refl).inside)

pub check_at-requires : goal.check_at-requires
unfolding placed
check_at-requires c =
    let a = c.args in
    let find = c.in_ok-place.ensures in
    let u = take a.used a.book.now in
    ap (λ (k : ℕ). is_whole (drop k u)) (found_at a.number a.used a.book.now find refl)
    ∙ found-whole u (take_bytes a.used a.book.now (λ i. (c.type_inv.book i).fits)) (found_book a.number a.used a.book.now find refl).is_book a.number
    (found-has a.number a.used a.book.now find refl)

pub returns : goal.returns
unfolding placed
returns c =
    let a = c.args in
    key_checked a.password.now a.book.now a.used a.number a.matrix.now c.in_ok-within.ensures (λ i. (c.type_inv.book i).fits) c.in_ok-place.ensures refl
    c.check_at.ensures
