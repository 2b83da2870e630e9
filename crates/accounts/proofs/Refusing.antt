-- Which refusal the operations on a book give, check by check, and what is known where a check is passed. Assumes nothing.
use mathlib.Core.Path.{◌≡◌, refl, sym, ap, ap₂, ◌∙◌}
use Prim.Native.Nat.{ℕ, ◌≤◌, ◌<◌}
use native.Mathlib.Omega.{arith}
use mathlib.Core.Bool.{Bool, true, false, not, ◌&&◌, ◌||◌, true≢false}
use mathlib.Core.List.{List, [], ◌∷◌}
use lib.Dec.{ltb}
use lib.ListN.{length, take}
use lib.Seq.{length-take-le}
use borrow.Author.Tests.{ltb-false, lt-ltb, le-ltb, not-true, not-false}
use Rattle.refusals.specs.Checks.{flag, first, refuses, account_check}
use Rattle.refusals.proofs.Accepted.{neither, first_refused, first_passed}
use Rattle.refusals.proofs.Answered.{answered-yes, answered_no}
use Rattle.accounts.specs.Accounts.{Account, encode_all, accounts}
use Rattle.accounts.specs.Book.{has, distinct, place_of, is_run, is_book}
use Rattle.accounts.specs.Promises.{BookAnswer, accounts_in, good_book, placed, no_place, find_checks, find_number, find_answer}
use Rattle.accounts.proofs.Walking.{run}
use Rattle.accounts.proofs.Changing.{book_run, found-place, missing-place}

-- what is known of a book that is not refused
pub record GoodBook (used : ℕ) (book : List ℕ) : Type 0 where
  pub passes : refuses (good_book used book) ≡ false
  pub inside : used ≤ length book
  pub is_book : is_book (take used book) ≡ true

-- ---- whether the used part is a book

module _ (used : ℕ) (book : List ℕ) where
  abbrev u : List ℕ
  u = take used book

  good_is : {b : Bool} → is_book u ≡ b → used ≤ length book → refuses (good_book used book) ≡ not b
  good_is {b} e h =
      ap₂ (λ (s t : Bool). s || (ltb (flag t) 1 || false)) (le-ltb (length book) used h) e ∙ flagged b
    where
      flagged : (t : Bool) → (false || (ltb (flag t) 1 || false)) ≡ not t
      flagged true = refl
      flagged false = refl

  pub book_too_long : length book < used → false ≡ not (refuses (good_book used book))
  book_too_long h = sym (ap (λ (t : Bool). not (t || (ltb (flag (is_book u)) 1 || false))) (lt-ltb (length book) used h))

  pub no_run : used ≤ length book → is_run u ≡ false → false ≡ not (refuses (good_book used book))
  unfolding is_book
  no_run h e = sym (ap not (good_is (ap (λ (t : Bool). t && distinct (accounts u)) e) h))

  pub run_decides : used ≤ length book → is_run u ≡ true → {r : Bool} → r ≡ distinct (accounts u) → r ≡ not (refuses (good_book used book))
  unfolding is_book
  run_decides h e {r} is = is ∙ sym (twice (distinct (accounts u))) ∙ sym (ap not (good_is (ap (λ (t : Bool). t && distinct (accounts u)) e) h))
    where
      twice : (t : Bool) → not (not t) ≡ t
      twice true = refl
      twice false = refl

  pub passed_book : refuses (good_book used book) ≡ false → GoodBook used book
  passed_book e =
      let parts = neither (ltb (length book) used) (ltb (flag (is_book u)) 1 || false) e in
      record { passes = e; inside = ltb-false _ _ parts.0; is_book = flagged (is_book u) parts.1 }
    where
      flagged : (t : Bool) → (ltb (flag t) 1 || false) ≡ false → t ≡ true
      flagged true h = refl
      flagged false h = absurd (true≢false h)

  module _ {r : Bool} (is : r ≡ not (refuses (good_book used book))) where
    pub bad_book : r ≡ false → refuses (good_book used book) ≡ true
    bad_book e = not-false _ (sym is ∙ e)

    pub good_book_lem : r ≡ true → GoodBook used book
    good_book_lem e = passed_book (not-true (refuses (good_book used book)) (sym is ∙ e))

-- ---- finding

module _ (number used : ℕ) (book : List ℕ) where
  abbrev l : List Account
  l = accounts_in used book

  find_17 : refuses (good_book used book) ≡ true → find_number number used book ≡ 17
  unfolding find_checks
  find_17 e = first_refused (good_book used book) (account_check (has number l) ∷ []) e

  pub find_damaged : refuses (good_book used book) ≡ true → {r : BookAnswer} → r ≡ no_place 17 → r ≡ find_answer number used book
  unfolding find_answer
  find_damaged e is = answered_no _ _ (sym (find_17 e)) (λ z. omega arith) (is ∙ ap no_place (sym (find_17 e)))

  module _ (g : GoodBook used book) where
    all : length (encode_all l) ≡ used
    all = run (take used book) (book_run (take used book) g.is_book) ∙ length-take-le used book g.inside

    find_next : {b : Bool} → has number l ≡ b → find_number number used book ≡ first (account_check b ∷ [])
    unfolding find_checks
    find_next h = first_passed (good_book used book) (account_check (has number l) ∷ []) g.passes ∙ ap (λ (b : Bool). first (account_check b ∷ [])) h

    missing_has : place_of number l ≡ used → has number l ≡ false
    missing_has e = go (has number l) refl
      where
        go : (b : Bool) → has number l ≡ b → b ≡ false
        go true h = absurd (omega (arith, found-place number l h, all))
        go false h = refl

    found-has : (place_of number l ≡ used → ⊥) → has number l ≡ true
    found-has e = go (has number l) refl
      where
        go : (b : Bool) → has number l ≡ b → b ≡ true
        go true h = refl
        go false h = absurd (e (missing-place number l h ∙ all))

    module _ {place : ℕ} (at : place ≡ place_of number l) where
      pub find_missing : place ≡ used → {r : BookAnswer} → r ≡ no_place 18 → r ≡ find_answer number used book
      unfolding find_answer first
      find_missing e is =
          let n : 18 ≡ find_number number used book = sym (find_next (missing_has (sym at ∙ e))) in
          answered_no _ _ n (λ z. omega arith) (is ∙ ap no_place n)

      pub find_found : (place ≡ used → ⊥) → record { refusal = 0; place = place } ≡ find_answer number used book
      unfolding find_answer first placed
      find_found e = answered-yes _ _ (find_next (found-has (λ z. e (at ∙ z)))) (ap placed at)
