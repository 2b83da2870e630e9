-- Each test that fails refuses, and the last decides.
use Rattle.std.proofs.Common.{◌≡◌, List, ℕ, refl, sym, ap, ◌∙◌, arith, take}
use borrow.Author.Tests.{not-true, not-false}
use Rattle.accounts.specs.Accounts.{accounts}
use Rattle.accounts.specs.Book.{is_run, distinct}
use Rattle.accounts.proofs.Refusing.{book_too_long, no_run, run_decides}
use Rattle.book_finding.proofs.used_book.Goals as goal
use Rattle.book_finding.proofs.used_book.Goals.{in_default-via-in-Some+then-is_run+else-are_distinct, in_default-via-in-Some+else-is_run, in_default-via-in_default}

pub returns-in-Some : goal.returns-in-Some
returns-in-Some c =
    let book = c.args.book.now in
    let used = c.args.used in
    let part : c.in-Some.part.now ≡ take used book = c.in-Some.ensures.lookup.0.2 ∙ ap (λ (n : ℕ). take n book) (omega arith) in (
      part,
      not-true _ (sym (run_decides used book (omega (arith, c.in-Some.ensures.lookup)) (sym (c.is_run.ensures ∙ ap is_run part) ∙ c.if-is_run.true) (c.are_distinct.ensures ∙ ap (λ (l : List ℕ). distinct (accounts l)) part)) ∙ c.if-are_distinct.true),
    )

pub returns-in_default : goal.returns-in_default
returns-in_default c =
    let book = c.args.book.now in
    let used = c.args.used in
    elim c.in_default.branch [
      | in_default-via-in-Some+then-is_run+else-are_distinct w ↦
          let part : w.in-Some.part.now ≡ take used book = w.in-Some.ensures.lookup.0.2 ∙ ap (λ (n : ℕ). take n book) (omega arith) in
          (refl, not-false _ (sym (run_decides used book (omega (arith, w.in-Some.ensures.lookup)) (sym (w.is_run.ensures ∙ ap is_run part) ∙ w.if-is_run.true) (w.are_distinct.ensures ∙ ap (λ (l : List ℕ). distinct (accounts l)) part)) ∙ w.if-are_distinct.false))
      | in_default-via-in-Some+else-is_run w ↦
          let part : w.in-Some.part.now ≡ take used book = w.in-Some.ensures.lookup.0.2 ∙ ap (λ (n : ℕ). take n book) (omega arith) in
          (refl, not-false _ (sym (no_run used book (omega (arith, w.in-Some.ensures.lookup)) (sym (w.is_run.ensures ∙ ap is_run part) ∙ w.if-is_run.false))))
      | in_default-via-in_default w ↦ (refl, not-false _ (sym (book_too_long used book (omega (arith, w.in_default.ensures.lookup.0)))))
    ]
