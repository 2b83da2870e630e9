-- What taking an account out and putting one last leave in the slice, and what the two operations answer. Assumes nothing.
use mathlib.Core.Path.{◌≡◌, refl, sym, ap, ap₂, ◌∙◌}
use Prim.Native.Nat.{ℕ, ◌+◌, ◌-◌, ◌≤◌, ◌<◌}
use native.Mathlib.Omega.{arith}
use mathlib.Core.Bool.{Bool, true, false, cond, ◌||◌}
use mathlib.Core.List.{List, [], ◌∷◌, ◌++◌, append_assoc, append-nil}
use lib.Dec.{ltb}
use lib.ListN.{length, take, drop, replicate, length-append, length-drop}
use lib.Seq.{take-take, length-take-le}
use borrow.Author.Tests.{lt-ltb, le-ltb}
use Rattle.lists.specs.Zip.{put_into, zip_at}
use Rattle.lists.proofs.Putting.{put-from, put_over, drop-replicate}
use Rattle.little_endian.proofs.ByteLaws.{AllBytes, take_bytes}
use Rattle.refusals.specs.Checks.{Check, first, refuses, book_room_check, stored_checks}
use Rattle.refusals.proofs.Accepted.{accepted, flag-set, first_refused, first_passed, more_refuse, more_pass}
use Rattle.refusals.proofs.Answered.{answered-yes, answered_no, answered_is, answered_number}
use Rattle.accounts.specs.Accounts.{Account, head_bytes, encode, encode_all, accounts, entry_of}
use Rattle.accounts.specs.Book.{has, place_of, without, with, is_book, rewritten}
use Rattle.accounts.specs.Promises.{BookAnswer, accounts_in, good_book, placed, no_place, find_checks, find_number, find_answer, Removed, add_checks, add_number, Added}
use Rattle.accounts.proofs.Decoding.{length-encode, entry_fits}
use Rattle.accounts.proofs.Walking.{run}
use Rattle.accounts.proofs.Changing.{encode-append, book_run, place_most, others_bytes, others_length}
use Rattle.accounts.proofs.Refusing.{GoodBook}

-- ---- what a found account's answer tells

module _ (number used : ℕ) (book : List ℕ) {f : BookAnswer} (is : f ≡ find_answer number used book) where
  abbrev l : List Account
  l = accounts_in used book

  pub refusal_is : f.refusal ≡ find_number number used book
  unfolding find_answer placed no_place
  refusal_is =
      ap (λ (a : BookAnswer). a.refusal) is
      ∙ answered_number (λ (a : BookAnswer). a.refusal) (find_number number used book) (placed (place_of number l)) (no_place (find_number number used book)) refl refl

  pub remove_refused : (f.refusal ≡ 0 → ⊥) → Removed number used book book f
  unfolding find_answer
  remove_refused h =
      record {
        answer =
            let none = answered_no (placed (place_of number l)) (no_place (find_number number used book)) refusal_is h refl in
            is ∙ sym none ∙ answered_no _ _ refusal_is h refl;
        book_after = answered_no _ _ refusal_is h refl;
      }

  module _ (z : f.refusal ≡ 0) where
    no_refusal : find_number number used book ≡ 0
    no_refusal = sym refusal_is ∙ z

    pub found_book : GoodBook used book
    unfolding find_checks
    found_book =
        let bounds = accepted (find_checks number used book) (omega arith) no_refusal in
        record {
          passes = ap₂ (λ (s t : Bool). s || (t || false)) (le-ltb _ _ bounds.0.0) (le-ltb _ _ bounds.0.1.0);
          inside = bounds.0.0;
          is_book = flag-set (is_book (take used book)) bounds.0.1.0;
        }

    pub found-has : has number l ≡ true
    unfolding find_checks
    found-has = flag-set (has number l) (accepted (find_checks number used book) (omega arith) no_refusal).1.0.0

    pub found_at : f.place ≡ place_of number l
    unfolding find_answer placed
    found_at = ap (λ (a : BookAnswer). a.place) (answered_is (placed (place_of number l)) (no_place (find_number number used book)) no_refusal is)

-- ---- the bytes

module _ (number used : ℕ) (book : List ℕ) (h : AllBytes book) (g : GoodBook used book) {place size : ℕ} (at : place ≡ place_of number (accounts_in used book))
    (is : size ≡ (entry_of (drop place (take used book))).size) where
  abbrev u : List ℕ
  u = take used book

  abbrev w : List Account
  w = without number (accounts u)

  long : length u ≡ used
  long = length-take-le used book g.inside

  size_at : size ≡ (entry_of (drop (place_of number (accounts u)) u)).size
  size_at = is ∙ ap (λ (k : ℕ). (entry_of (drop k u)).size) at

  abbrev bytes : AllBytes u
  bytes = take_bytes used book h

  pub kept_length : used - size ≡ length (encode_all w)
  kept_length = omega (arith, others_length u bytes g.is_book number, size_at, long)

  pub size_fits : size ≤ used
  size_fits = omega (arith, others_length u bytes g.is_book number, size_at, long)

  pub place_fits : place + size ≤ used
  place_fits =
      let inside : place ≤ used = omega (arith, at, place_most number (accounts u), run u (book_run u g.is_book), long) in
      omega (arith, is, entry_fits (drop place u), length-drop place u, long)

  -- the account taken out
  pub taken_out : {after : List ℕ} → after ≡ zip_at (λ x y. y) place book (drop (place + size) u ++ replicate size 0) → after ≡ rewritten w used book
  unfolding rewritten
  taken_out e =
      let others : encode_all w ≡ take place u ++ drop (place + size) u =
      others_bytes u bytes g.is_book number ∙ (λ i. take (at' i) u ++ drop (at' i + size' i) u) in
      let zeros : used - length (encode_all w) ≡ size = omega (arith, kept_length, size_fits) in
      e ∙ put-from place book (drop (place + size) u ++ replicate size 0) (omega (arith, place_fits, g.inside))
      ∙ ap (λ (x : List ℕ). put_into book (x ++ (drop (place + size) u ++ replicate size 0))) (sym (take-take place used book (omega (arith, place_fits))))
      ∙ ap (put_into book) (sym (append_assoc (take place u) (drop (place + size) u) (replicate size 0)))
      ∙ ap₂ (λ (x : List ℕ) (k : ℕ). put_into book (x ++ replicate k 0)) (sym others) (sym zeros)
    where
      at' : place_of number (accounts u) ≡ place
      at' = sym at

      size' : (entry_of (drop (place_of number (accounts u)) u)).size ≡ size
      size' = sym size_at

-- an account put behind others
put_behind : (a : Account) (w : List Account) (used : ℕ) (book : List ℕ) → length (encode_all w) ≤ used → {kept : ℕ} → kept ≡ length (encode_all w)
    → {after last : List ℕ} → after ≡ rewritten w used book → last ≡ zip_at (λ x y. y) kept after (encode a) → last ≡ rewritten (w ++ (a ∷ [])) used book
unfolding rewritten encode_all
put_behind a w used book h is e f =
    let zs : List ℕ = replicate (used - length (encode_all w)) 0 in
    let all : encode_all (w ++ (a ∷ [])) ≡ encode_all w ++ encode a = encode-append w (a ∷ []) ∙ ap (λ (l : List ℕ). encode_all w ++ l) (append-nil (encode a)) in
    let left : used - length (encode_all w) - length (encode a) ≡ used - length (encode_all (w ++ (a ∷ []))) = omega (arith, ap length all, length-append (encode_all w) (encode a)) in
    f ∙ ap₂ (λ (k : ℕ) (l : List ℕ). zip_at (λ x y. y) k l (encode a)) is e ∙ put_over book (encode_all w) zs (encode a)
    ∙ ap (λ (l : List ℕ). put_into book (encode_all w ++ (encode a ++ l)))
    (drop-replicate (length (encode a)) (used - length (encode_all w)) 0 ∙ ap (λ (k : ℕ). replicate k 0) left)
    ∙ ap (put_into book) (sym (append_assoc (encode_all w) (encode a) (replicate (used - length (encode_all (w ++ (a ∷ [])))) 0)))
    ∙ ap (λ (l : List ℕ). put_into book (l ++ replicate (used - length (encode_all (w ++ (a ∷ [])))) 0)) (sym all)

pub put_last : (a : Account) (l : List Account) (used : ℕ) (book : List ℕ) → length (encode_all (without a.number l)) ≤ used
    → {kept : ℕ} → kept ≡ length (encode_all (without a.number l)) → {after last : List ℕ} → after ≡ rewritten (without a.number l) used book
    → last ≡ zip_at (λ x y. y) kept after (encode a) → last ≡ rewritten (with a l) used book
unfolding with
put_last a l = put_behind a (without a.number l)

-- ---- the two operations

pub removed : (number used : ℕ) (book : List ℕ) {f : BookAnswer} (is : f ≡ find_answer number used book) (z : f.refusal ≡ 0) (h : AllBytes book) {size : ℕ}
    → size ≡ (entry_of (drop f.place (take used book))).size → {after : List ℕ}
    → after ≡ zip_at (λ x y. y) f.place book (drop (f.place + size) (take used book) ++ replicate size 0)
    → Removed number used book after (record { refusal = 0; place = used - size })
unfolding placed
removed number used book is z h to e =
    let g = found_book number used book is z in
    let at = found_at number used book is z in
    let none = no_refusal number used book is z in
    record {
      answer = answered-yes _ _ none (ap placed (kept_length number used book h g at to));
      book_after = answered-yes _ _ none (taken_out number used book h g at to e);
    }

-- adding, check by check
module _ (a : Account) (used : ℕ) (book : List ℕ) {n : ℕ} (stored : n ≡ first (stored_checks (length a.key) (length a.salt) a.parameters)) where
  abbrev w' : List Account
  w' = with a (accounts_in used book)

  abbrev later : List Check
  later = good_book used book ∷ book_room_check (length (encode_all w')) (length book) ∷ []

  refused : {m : ℕ} → m ≡ add_number a used book → (m ≡ 0 → ⊥) → {r : BookAnswer} → r ≡ no_place m → Added a used book book r
  refused e h is = record { answer = answered_no _ _ e h (is ∙ ap no_place e); book_after = answered_no _ _ e h refl }

  pub stored_refused : (n ≡ 0 → ⊥) → {r : BookAnswer} → r ≡ no_place n → Added a used book book r
  unfolding add_checks
  stored_refused h is = refused (more_refuse (stored_checks (length a.key) (length a.salt) a.parameters) later stored h) h is

  module _ (z : n ≡ 0) where
    decides : {m : ℕ} → m ≡ first later → m ≡ add_number a used book
    unfolding add_checks stored_checks
    decides e = more_pass (stored_checks (length a.key) (length a.salt) a.parameters) later stored (omega arith) z e

    pub book_refused : refuses (good_book used book) ≡ true → {r : BookAnswer} → r ≡ no_place 17 → Added a used book book r
    book_refused e is =
        refused (decides (sym (first_refused (good_book used book) (book_room_check (length (encode_all w')) (length book) ∷ []) e))) (λ x. omega arith) is

    module _ (g : GoodBook used book) where
      room : {b : Bool} → ltb (length book) (length (encode_all w')) ≡ b → {m : ℕ} → m ≡ cond (b || false) 19 0 → m ≡ add_number a used book
      unfolding first
      room e f =
          decides
          (f ∙ ap (λ (t : Bool). cond (t || false) 19 0) (sym e)
          ∙ sym (first_passed (good_book used book) (book_room_check (length (encode_all w')) (length book) ∷ []) g.passes))

      pub room_refused : length book < length (encode_all w') → {r : BookAnswer} → r ≡ no_place 19 → Added a used book book r
      room_refused h is = refused (room (lt-ltb _ _ h) refl) (λ x. omega arith) is

      pub added : length (encode_all w') ≤ length book → {end : ℕ} → end ≡ length (encode_all w') → {after : List ℕ} → after ≡ rewritten w' used book
          → Added a used book after (record { refusal = 0; place = end })
      unfolding placed
      added h end e =
          let none = sym (room (le-ltb _ _ h) refl) in
          record { answer = answered-yes _ _ none (ap placed end); book_after = answered-yes _ _ none e }

-- the length of the book with the account
pub with-length : (a : Account) (l : List Account) → length (encode_all (with a l)) ≡ length (encode_all (without a.number l)) + (head_bytes + length a.salt + length a.key)
unfolding with encode_all
with-length a l =
    omega (
      arith,
      ap length (encode-append (without a.number l) (a ∷ [])),
      length-append (encode_all (without a.number l)) (encode a ++ []),
      ap length (append-nil (encode a)),
      length-encode a,
    )
