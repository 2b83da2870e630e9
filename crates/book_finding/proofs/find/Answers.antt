-- A book that is none, a number that is not there, or the account's place.
use Rattle.std.proofs.Common.{List, ℕ, refl, ap, ◌∙◌}
use Rattle.refusals.specs.Refusals.{number_of}
use Rattle.refusals.proofs.Chained.{handed_is}
use Rattle.accounts.specs.Accounts.{accounts}
use Rattle.accounts.specs.Book.{is_run, place_of}
use Rattle.accounts.specs.Promises.{place_answer, placed, no_place}
use Rattle.accounts.proofs.Changing.{book_run}
use Rattle.accounts.proofs.Refusing.{passed_book, find_damaged, find_missing, find_found}
use Rattle.book_finding.proofs.find.Goals as goal

pub returns-in_err-used_book : goal.returns-in_err-used_book
returns-in_err-used_book c =
    let none = c.in_err-used_book.ensures in
    find_damaged c.args.number c.args.used c.args.book.now none.1
    (ap place_answer (handed_is _ _ c.from_residual.ensures) ∙ ap (λ r. no_place (number_of r)) none.0)

pub place_of-place-requires : goal.place_of-place-requires
place_of-place-requires c =
    let is = c.in_ok-used_book.ensures in ap is_run is.0 ∙ book_run _ (passed_book c.args.used c.args.book.now is.1).is_book

pub returns-then-place-used : goal.returns-then-place-used
returns-then-place-used c =
    let is = c.in_ok-used_book.ensures in
    find_missing c.args.number c.args.used c.args.book.now (passed_book c.args.used c.args.book.now is.1)
    (c.place_of-place.ensures ∙ ap (λ (l : List ℕ). place_of c.args.number (accounts l)) is.0) c.if-place-used.true refl

pub returns : goal.returns
unfolding placed
returns c =
    let is = c.in_ok-used_book.ensures in
    find_found c.args.number c.args.used c.args.book.now (passed_book c.args.used c.args.book.now is.1)
    (c.place_of-place.ensures ∙ ap (λ (l : List ℕ). place_of c.args.number (accounts l)) is.0) c.if-place-used.false
