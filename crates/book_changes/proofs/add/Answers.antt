-- A refusal of the account or of the book, or what adding to the book leaves.
use Rattle.std.proofs.Common.{refl, ap, arith, ◌∙◌}
use Rattle.refusals.specs.Refusals.{number_of}
use Rattle.refusals.proofs.Chained.{handed_is, number_above}
use Rattle.accounts.specs.Promises.{account, place_answer, no_place}
use Rattle.accounts.proofs.Rewriting.{stored_refused, book_refused}
use Rattle.book_changes.proofs.add.Goals as goal

pub returns-in_err-check_stored : goal.returns-in_err-check_stored
returns-in_err-check_stored c =
    let a = c.args in
    stored_refused (account a.number a.p a.salt.now a.key.now) a.used a.book.now c.in_err-check_stored.ensures
    (λ z. omega (arith, number_above c.in_err-check_stored.field-0.0)) (ap place_answer (handed_is _ _ c.from_residual.ensures))

pub returns-in_err-used_book : goal.returns-in_err-used_book
returns-in_err-used_book c =
    let a = c.args in
    let none = c.in_err-used_book.ensures in
    book_refused (account a.number a.p a.salt.now a.key.now) a.used a.book.now c.in_ok-check_stored.ensures refl none.1
    (ap place_answer (handed_is _ _ c.from_residual-in_err-used_book.ensures) ∙ ap (λ r. no_place (number_of r)) none.0)
