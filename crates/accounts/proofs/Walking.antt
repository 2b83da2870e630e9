-- Going over a run of accounts, place by place: what the accounts from a place on tell of all of them. Assumes nothing.
use mathlib.Core.Path.{◌≡◌, refl, sym, ap, ◌∙◌}
use Prim.Native.Nat.{ℕ, ◌+◌, ◌≤◌, ◌<◌}
use native.Mathlib.Nat.{zero-add}
use native.Mathlib.Omega.{arith}
use mathlib.Core.Bool.{Bool, true, false, cond}
use mathlib.Core.List.{List, [], ◌∷◌}
use lib.Dec.{eqb}
use lib.ListN.{length, drop, length-drop}
use lib.Seq.{drop-drop}
use borrow.Author.Tests.{eqb-true, eq-eqb, ne_eqb}
use Rattle.accounts.specs.Accounts.{Account, encode, encode_all, head_of, is_whole, account_of, accounts, entry_of}
use Rattle.accounts.specs.Book.{place_of, is_run, Run, Running}
use Rattle.accounts.specs.declared.Entry.{Entry}
use Rattle.accounts.proofs.Decoding.{length_all_cons, whole, size_is, front_size, accounts-whole, accounts_none, accounts_end, entry_whole, whole_of_size, none_of_size}

pub run : (u : List ℕ) → is_run u ≡ true → Run u
run u e = eqb-true _ _ e

-- ---- a step over the account in front

module _ (u : List ℕ) (w : is_whole u ≡ true) where
  abbrev size : ℕ
  size = (entry_of u).size

  is_size : size ≡ (head_of u).size
  is_size = ap (λ (e : Entry). e.size) (entry_whole u w)

  pub step_moves : 0 < size
  step_moves = omega (arith, is_size, size_is u)

  pub step_inside : size ≤ length u
  step_inside = omega (arith, is_size, (whole u w).fits)

  pub step-accounts : accounts u ≡ account_of u ∷ accounts (drop size u)
  step-accounts = accounts-whole u w ∙ ap (λ (n : ℕ). account_of u ∷ accounts (drop n u)) (sym is_size)

  pub front_length : length (encode (account_of u)) ≡ size
  front_length = front_size u (whole u w) ∙ sym is_size

  pub step-length : length (encode_all (accounts u)) ≡ size + length (encode_all (accounts (drop size u)))
  step-length =
      ap (λ (l : List Account). length (encode_all l)) step-accounts ∙ length_all_cons (account_of u) (accounts (drop size u))
      ∙ ap (λ (n : ℕ). n + length (encode_all (accounts (drop size u)))) front_length

-- no account in front, no bytes
pub none_length : (u : List ℕ) → is_whole u ≡ false → length (encode_all (accounts u)) ≡ 0
unfolding encode_all
none_length u e = ap (λ (l : List Account). length (encode_all l)) (accounts_none u e)

pub end_length : (u : List ℕ) → length u ≡ 0 → length (encode_all (accounts u)) ≡ 0
unfolding encode_all
end_length u e = ap (λ (l : List Account). length (encode_all l)) (accounts_end u e)

-- a run that is not at its end has an account in front, and a run behind it
pub run-whole : (u : List ℕ) → Run u → 0 < length u → is_whole u ≡ true
run-whole u r h = go (is_whole u) refl
  where
    go : (b : Bool) → is_whole u ≡ b → b ≡ true
    go true e = refl
    go false e = absurd (omega (arith, none_length u e))

pub run_behind : (u : List ℕ) → Run u → (w : is_whole u ≡ true) → Run (drop (entry_of u).size u)
run_behind u r w = omega (arith, step-length u w, step_inside u w, length-drop (entry_of u).size u)

-- ---- over a book, from place to place

-- all before a place are whole accounts
pub record Counted (book : List ℕ) (at : ℕ) : Type 0 where
  pub inside : at ≤ length book
  pub so_far : at + length (encode_all (accounts (drop at book))) ≡ length (encode_all (accounts book))

pub counted_none : {book : List ℕ} → Counted book 0
counted_none {book} = record { inside = omega arith; so_far = zero-add (length (encode_all (accounts book))) }

module _ {book : List ℕ} {at next : ℕ} (q : Counted book at) (is : next ≡ at + (entry_of (drop at book)).size) where
  abbrev here : List ℕ
  here = drop at book

  pub counted_more : (next ≡ at → ⊥) → Counted book next
  counted_more h =
      let w = whole_of_size here (λ z. h (omega arith)) in
      let behind = drop-drop (entry_of here).size at book in
      record {
        inside = omega (arith, q.inside, step_inside here w, length-drop at book);
        so_far =
            let same : length (encode_all (accounts (drop next book))) ≡ length (encode_all (accounts (drop (entry_of here).size here))) =
            ap (λ (l : List ℕ). length (encode_all (accounts l))) (ap (λ (n : ℕ). drop n book) is ∙ sym behind) in
            omega (arith, q.so_far, step-length here w);
      }

  pub counted_stops : at < length book → next ≡ at → false ≡ is_run book
  counted_stops h e =
      let none = none_length here (none_of_size here (omega arith)) in sym (ne_eqb (length (encode_all (accounts book))) (length book) (λ all. omega (arith, q.so_far)))

pub counted_end : {book : List ℕ} {at : ℕ} → Counted book at → length book ≤ at → true ≡ is_run book
counted_end {book} {at} q h =
    let none = end_length (drop at book) (omega (arith, length-drop at book)) in
    sym (eq-eqb (length (encode_all (accounts book))) (length book) (omega (arith, q.so_far, q.inside)))

-- a run from a place on

pub running_none : {book : List ℕ} → Run book → Running book 0
running_none r = record { inside = omega arith; rest = r }

module _ {book : List ℕ} {at : ℕ} (q : Running book at) (h : at < length book) where
  pub running_whole : is_whole (drop at book) ≡ true
  running_whole = run-whole (drop at book) q.rest (omega (arith, length-drop at book))

  pub running_moves : 0 < (entry_of (drop at book)).size
  running_moves = step_moves (drop at book) running_whole

  pub running_more : {next : ℕ} → next ≡ at + (entry_of (drop at book)).size → Running book next
  running_more {next} is =
      let w = running_whole in
      record {
        inside = omega (arith, q.inside, step_inside (drop at book) w, length-drop at book);
        rest =
            let behind : drop (entry_of (drop at book)).size (drop at book) ≡ drop next book =
            drop-drop (entry_of (drop at book)).size at book ∙ ap (λ (n : ℕ). drop n book) (sym is) in
            ap (λ (l : List ℕ). length (encode_all (accounts l))) (sym behind) ∙ run_behind (drop at book) q.rest w ∙ ap length behind;
      }

  pub running_accounts : {next : ℕ} → next ≡ at + (entry_of (drop at book)).size
      → accounts (drop at book) ≡ account_of (drop at book) ∷ accounts (drop next book)
  running_accounts is =
      step-accounts (drop at book) running_whole
      ∙ ap (λ (l : List ℕ). account_of (drop at book) ∷ accounts l)
      (drop-drop (entry_of (drop at book)).size at book ∙ ap (λ (n : ℕ). drop n book) (sym is))

  -- the number in front, as the code reads it
  pub running_number : {e : Entry} → e ≡ entry_of (drop at book) → (account_of (drop at book)).number ≡ e.number
  unfolding account_of
  running_number is = sym (ap (λ (x : Entry). x.number) (is ∙ entry_whole (drop at book) running_whole))

pub running_end : {book : List ℕ} {at : ℕ} → Running book at → length book ≤ at → accounts (drop at book) ≡ []
running_end {book} {at} q h = accounts_end (drop at book) (omega (arith, length-drop at book))

-- ---- looking for a number

pub record Searched (number : ℕ) (book : List ℕ) (at : ℕ) : Type 0 where
  pub running : Running book at
  pub so_far : at + place_of number (accounts (drop at book)) ≡ place_of number (accounts book)

pub searched_none : {number : ℕ} {book : List ℕ} → Run book → Searched number book 0
searched_none {number} {book} r = record { running = running_none r; so_far = zero-add (place_of number (accounts book)) }

module _ {number : ℕ} {book : List ℕ} {at : ℕ} (q : Searched number book at) where
  module _ (h : at < length book) {e : Entry} (is : e ≡ entry_of (drop at book)) where
    front : {b : Bool} → eqb e.number number ≡ b → {next : ℕ} → next ≡ at + (entry_of (drop at book)).size
        → place_of number (accounts (drop at book)) ≡ cond b 0 ((entry_of (drop at book)).size + place_of number (accounts (drop next book)))
    unfolding place_of
    front {b} same {next} to =
        ap (place_of number) (running_accounts q.running h to)
        ∙ ap (λ (t : Bool). cond t 0 (length (encode (account_of (drop at book))) + place_of number (accounts (drop next book))))
        (ap (λ (n : ℕ). eqb n number) (running_number q.running h is) ∙ same)
        ∙ ap (λ (n : ℕ). cond b 0 (n + place_of number (accounts (drop next book)))) (front_length (drop at book) (running_whole q.running h))

    pub searched_found : e.number ≡ number → at ≡ place_of number (accounts book)
    searched_found same =
        let place = front (eq-eqb _ _ same) refl in
        omega (arith, q.so_far, place)

    pub searched_more : (e.number ≡ number → ⊥) → {next : ℕ} → next ≡ at + (entry_of (drop at book)).size → Searched number book next
    searched_more other {next} to =
        let place = front (ne_eqb _ _ other) to in
        record { running = running_more q.running h to; so_far = omega (arith, q.so_far, place) }

  pub searched_end : length book ≤ at → at ≡ place_of number (accounts book)
  unfolding place_of
  searched_end h = let none = ap (place_of number) (running_end q.running h) in omega (arith, q.so_far, none)
