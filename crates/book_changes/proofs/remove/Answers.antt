-- A refusal of the finding, or the account taken out.
use Rattle.std.proofs.Common.{refl, sym, subst, arith}
use lib.Seq.{length-take-le}
use Rattle.refusals.proofs.Chained.{handed_is, number_above}
use Rattle.accounts.specs.Promises.{place_answer, placed, no_place, Removed}
use Rattle.accounts.proofs.Rewriting.{found_book, found_at, place_fits, size_fits, remove_refused, removed}
use Rattle.book_changes.proofs.remove.Goals as goal

pub returns-in_err-found : goal.returns-in_err-found
unfolding no_place
returns-in_err-found c =
    let a = c.args in
    subst (λ x. Removed a.number a.used a.book.now a.book.now (place_answer x)) (sym (handed_is _ _ c.from_residual.ensures))
    (remove_refused a.number a.used a.book.now c.in_err-found.ensures (λ z. omega (arith, number_above c.in_err-found.field-0.0)))

pub slice_bounds-size_at-end : goal.slice_bounds-size_at-end
unfolding placed
slice_bounds-size_at-end c = (found_book c.args.number c.args.used c.args.book.now c.in_ok-found.ensures refl).inside

pub slice_bounds-size_at-end-2 : goal.slice_bounds-size_at-end-2
unfolding placed
slice_bounds-size_at-end-2 c = sym (length-take-le _ _ (found_book c.args.number c.args.used c.args.book.now c.in_ok-found.ensures refl).inside)

pub take_out-requires : goal.take_out-requires
unfolding placed
take_out-requires c =
    let a = c.args in
    let g = found_book a.number a.used a.book.now c.in_ok-found.ensures refl in (
      place_fits a.number a.used a.book.now (λ i. (c.slice_known-1.given i).fits) g
          (found_at a.number a.used a.book.now c.in_ok-found.ensures refl) c.size_at-size.ensures,
      g.inside,
    )

pub overflow_sub-result : goal.overflow_sub-result
unfolding placed
overflow_sub-result c =
    let a = c.args in
    let g = found_book a.number a.used a.book.now c.in_ok-found.ensures refl in
    omega (
      arith,
      size_fits a.number a.used a.book.now (λ i. (c.slice_known-1.given i).fits) g
          (found_at a.number a.used a.book.now c.in_ok-found.ensures refl) c.size_at-size.ensures,
    )

pub returns : goal.returns
unfolding placed
returns c =
    let a = c.args in
    removed a.number a.used a.book.now c.in_ok-found.ensures refl (λ i. (c.slice_known-1.given i).fits) c.size_at-size.ensures c.take_out.ensures
