-- No room, or the old account taken out and the new one put last.
use Rattle.std.proofs.Common.{refl, sym, length, arith, ◌∙◌}
use Rattle.little_endian.proofs.ByteLaws.{AllBytes}
use Rattle.accounts.specs.Promises.{account, accounts_in, placed}
use Rattle.accounts.proofs.Decoding.{length-encode, stored_most}
use Rattle.accounts.proofs.Changing.{book_run}
use Rattle.accounts.proofs.Refusing.{passed_book}
use Rattle.accounts.proofs.Rewriting.{kept_length, size_fits, place_fits, taken_out, put_last, with-length, room_refused, added}
use Rattle.book_changes.proofs.add_to_book.Goals as goal

pub place_of-place-requires : goal.place_of-place-requires
place_of-place-requires c = book_run _ (passed_book c.args.used c.args.book.now c.requires.1).is_book

pub overflow_sub-kept : goal.overflow_sub-kept
overflow_sub-kept c =
    let a = c.args in
    omega (
      arith,
      size_fits a.number a.used a.book.now (λ i. (c.slice_known-1.given i).fits) (passed_book a.used a.book.now c.requires.1)
          c.place_of-place.ensures c.size_at-size.ensures,
    )

pub overflow_add-salt-2 : goal.overflow_add-salt-2
overflow_add-salt-2 c =
    let most = stored_most (length c.args.key.now) (length c.args.salt.now) c.args.p c.requires.0 in omega (arith, most.0, most.1)

pub returns-then-book-kept : goal.returns-then-book-kept
returns-then-book-kept c =
    let a = c.args in
    let book = a.book.now in
    let g = passed_book a.used book c.requires.1 in
    let new = account a.number a.p a.salt.now a.key.now in
    let kept = kept_length a.number a.used book (λ i. (c.slice_known-1.given i).fits) g c.place_of-place.ensures c.size_at-size.ensures in
    room_refused new a.used book (sym c.requires.0) refl g (omega (arith, kept, with-length new (accounts_in a.used book))) refl

pub take_out-requires : goal.take_out-requires
take_out-requires c =
    let a = c.args in
    let g = passed_book a.used a.book.now c.requires.1 in (
      place_fits a.number a.used a.book.now (λ i. (c.slice_known-1.given i).fits) g c.place_of-place.ensures c.size_at-size.ensures,
      g.inside,
    )

pub returns : goal.returns
unfolding placed
returns c =
    let a = c.args in
    let book = a.book.now in
    let g = passed_book a.used book c.requires.1 in
    let bytes : AllBytes book = λ i. (c.slice_known-1.given i).fits in
    let at = c.place_of-place.ensures in
    let size = c.size_at-size.ensures in
    let new = account a.number a.p a.salt.now a.key.now in
    let put = c.append_account.ensures in
    let kept = kept_length a.number a.used book bytes g at size in
    let all = with-length new (accounts_in a.used book) in
    added new a.used book (sym c.requires.0) refl g (omega (arith, kept, all)) (put.next_is ∙ omega (arith, kept, all, length-encode new))
    (put_last new (accounts_in a.used book) a.used book (omega (arith, kept)) kept
    (taken_out a.number a.used book bytes g at size c.take_out.ensures) put.put)
