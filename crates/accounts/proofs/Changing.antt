-- Where the account of a number is, and the bytes of the others. Assumes nothing.
use mathlib.Core.Path.{◌≡◌, refl, sym, ap, ap₂, subst, ◌∙◌}
use Prim.Native.Nat.{ℕ, ◌+◌, ◌-◌, ◌≤◌, ◌<◌}
use native.Mathlib.Omega.{arith}
use mathlib.Core.Bool.{Bool, true, false, cond, not, ◌||◌, and-eq-true_iff, false≢true, or_assoc}
use mathlib.Core.List.{List, [], ◌∷◌, ◌++◌, append_assoc, append-nil}
use lib.Dec.{eqb}
use lib.ListN.{length, take, drop, length-append, length-drop, drop_of_length-le}
use lib.Seq.{take_all, take_at, drop_at, length-take-le, drop-drop}
use borrow.Author.Tests.{eqb-true, eq-eqb, not-true}
use Rattle.lists.proofs.Grown.{All}
use Rattle.little_endian.proofs.ByteLaws.{AllBytes}
use Rattle.refusals.proofs.Accepted.{neither}
use Rattle.accounts.specs.Accounts.{Account, encode, encode_all, is_whole, account_of, accounts, entry_of, Good}
use Rattle.accounts.specs.Book.{has, distinct, found, place_of, without, is_run, is_book}
use Rattle.accounts.specs.declared.Entry.{Entry}
use Rattle.accounts.proofs.Decoding.{length-encode, encode_longer, length_all_cons, entry_fits}
use Rattle.accounts.proofs.Walking.{run}
use Rattle.accounts.proofs.Inverse.{entry, entry_read, whole_read, account_read, accounts_written, accounts_good}

-- ---- lists of accounts joined

pub encode-append : (l m : List Account) → encode_all (l ++ m) ≡ encode_all l ++ encode_all m
unfolding encode_all
encode-append [] m = refl
encode-append (a ∷ l) m = ap (λ (b : List ℕ). encode a ++ b) (encode-append l m) ∙ sym (append_assoc (encode a) (encode_all l) (encode_all m))

pub has-append : (n : ℕ) (l m : List Account) → has n (l ++ m) ≡ (has n l || has n m)
unfolding has
has-append n [] m = refl
has-append n (a ∷ l) m = ap (λ (b : Bool). eqb a.number n || b) (has-append n l m) ∙ sym (or_assoc (eqb a.number n) (has n l) (has n m))

-- where none has the number, none goes
pub without_none : (n : ℕ) (l : List Account) → has n l ≡ false → without n l ≡ l
unfolding without has
without_none n [] e = refl
without_none n (a ∷ l) e =
    let both = neither (eqb a.number n) (has n l) e in
    ap (λ (b : Bool). cond b (without n l) (a ∷ without n l)) both.0 ∙ ap (λ (m : List Account). a ∷ m) (without_none n l both.1)

without-append : (n : ℕ) (l m : List Account) → without n (l ++ m) ≡ without n l ++ without n m
unfolding without
without-append n [] m = refl
without-append n (a ∷ l) m =
    elim (eqb a.number n) as (λ b. cond b (without n (l ++ m)) (a ∷ without n (l ++ m)) ≡ cond b (without n l) (a ∷ without n l) ++ without n m)
    [ true ↦ without-append n l m | false ↦ ap (λ (k : List Account). a ∷ k) (without-append n l m) ]

-- ---- the accounts before and behind that of a number

abbrev before : ℕ → List Account → List Account
before n [] = []
before n (a ∷ l) = cond (eqb a.number n) [] (a ∷ before n l)

abbrev behind : ℕ → List Account → List Account
behind n [] = []
behind n (a ∷ l) = cond (eqb a.number n) l (behind n l)

split : (n : ℕ) (l : List Account) → has n l ≡ true → l ≡ before n l ++ (found n l ∷ behind n l)
unfolding has found
split n [] e = absurd (false≢true e)
split n (a ∷ l) e =
    elim (eqb a.number n) as (λ b. (b || has n l) ≡ true → a ∷ l ≡ cond b [] (a ∷ before n l) ++ (cond b a (found n l) ∷ cond b l (behind n l)))
    [ true ↦ λ h. refl | false ↦ λ h. ap (λ (m : List Account). a ∷ m) (split n l h) ] e

place_before : (n : ℕ) (l : List Account) → length (encode_all (before n l)) ≡ place_of n l
unfolding place_of encode_all
place_before n [] = refl
place_before n (a ∷ l) =
    elim (eqb a.number n) as (λ b. length (encode_all (cond b [] (a ∷ before n l))) ≡ cond b 0 (length (encode a) + place_of n l))
    [ true ↦ refl | false ↦ length_all_cons a (before n l) ∙ ap (λ (k : ℕ). length (encode a) + k) (place_before n l) ]

pub found_number : (n : ℕ) (l : List Account) → has n l ≡ true → (found n l).number ≡ n
unfolding has found
found_number n [] e = absurd (false≢true e)
found_number n (a ∷ l) e = go (eqb a.number n) refl (found_number n l)
  where
    go : (b : Bool) → eqb a.number n ≡ b → (has n l ≡ true → (found n l).number ≡ n) → (cond (eqb a.number n) a (found n l)).number ≡ n
    go true h more = ap (λ (t : Bool). (cond t a (found n l)).number) h ∙ eqb-true _ _ h
    go false h more =
        ap (λ (t : Bool). (cond t a (found n l)).number) h ∙ more (ap (λ (t : Bool). t || has n l) (sym h) ∙ e)

before_lacks : (n : ℕ) (l : List Account) → has n (before n l) ≡ false
unfolding has
before_lacks n [] = refl
before_lacks n (a ∷ l) = go (eqb a.number n) refl (before_lacks n l)
  where
    go : (b : Bool) → eqb a.number n ≡ b → has n (before n l) ≡ false → has n (cond (eqb a.number n) [] (a ∷ before n l)) ≡ false
    go true h more = ap (λ (t : Bool). has n (cond t [] (a ∷ before n l))) h
    go false h more = ap (λ (t : Bool). has n (cond t [] (a ∷ before n l))) h ∙ ap (λ (t : Bool). t || has n (before n l)) h ∙ more

-- numbers that are distinct stand once
behind_lacks : (n : ℕ) (l : List Account) → distinct l ≡ true → has n (behind n l) ≡ false
unfolding has distinct
behind_lacks n [] d = refl
behind_lacks n (a ∷ l) d =
    let parts = (and-eq-true_iff (not (has a.number l)) (distinct l)).0 d in go (eqb a.number n) refl (not-true _ parts.0) (behind_lacks n l parts.1)
  where
    go : (b : Bool) → eqb a.number n ≡ b → has a.number l ≡ false → has n (behind n l) ≡ false → has n (cond (eqb a.number n) l (behind n l)) ≡ false
    go true h once more = ap (λ (t : Bool). has n (cond t l (behind n l))) h ∙ ap (λ (k : ℕ). has k l) (sym (eqb-true _ _ h)) ∙ once
    go false h once more = ap (λ (t : Bool). has n (cond t l (behind n l))) h ∙ more

pub missing-place : (n : ℕ) (l : List Account) → has n l ≡ false → place_of n l ≡ length (encode_all l)
unfolding has place_of encode_all
missing-place n [] e = refl
missing-place n (a ∷ l) e =
    let both = neither (eqb a.number n) (has n l) e in
    ap (λ (b : Bool). cond b 0 (length (encode a) + place_of n l)) both.0 ∙ ap (λ (k : ℕ). length (encode a) + k) (missing-place n l both.1)
    ∙ sym (length_all_cons a l)

-- the account's bytes, with those before and behind them
split_bytes : (n : ℕ) (l : List Account) → has n l ≡ true → encode_all l ≡ encode_all (before n l) ++ (encode (found n l) ++ encode_all (behind n l))
unfolding encode_all
split_bytes n l e = ap encode_all (split n l e) ∙ encode-append (before n l) (found n l ∷ behind n l)

pub found_inside : (n : ℕ) (l : List Account) → has n l ≡ true → place_of n l + length (encode (found n l)) ≤ length (encode_all l)
found_inside n l e =
    let p = encode_all (before n l) in
    let a = encode (found n l) in
    let q = encode_all (behind n l) in
    omega (arith, ap length (split_bytes n l e), length-append p (a ++ q), length-append a q, place_before n l)

pub found-place : (n : ℕ) (l : List Account) → has n l ≡ true → place_of n l < length (encode_all l)
found-place n l e = omega (arith, found_inside n l e, encode_longer (found n l))

pub place_most : (n : ℕ) (l : List Account) → place_of n l ≤ length (encode_all l)
place_most n l = go (has n l) refl
  where
    go : (b : Bool) → has n l ≡ b → place_of n l ≤ length (encode_all l)
    go true e = omega (arith, found-place n l e)
    go false e = omega (arith, missing-place n l e)

without-found : (n : ℕ) (l : List Account) → has n l ≡ true → distinct l ≡ true → without n l ≡ before n l ++ behind n l
unfolding without
without-found n l e d =
    let here : eqb (found n l).number n ≡ true = eq-eqb _ _ (found_number n l e) in
    ap (without n) (split n l e) ∙ without-append n (before n l) (found n l ∷ behind n l)
    ∙ ap₂ (λ (x y : List Account). x ++ y) (without_none n (before n l) (before_lacks n l))
    (ap (λ (t : Bool). cond t (without n (behind n l)) (found n l ∷ without n (behind n l))) here ∙ without_none n (behind n l) (behind_lacks n l d))

-- ---- in the bytes of a book

pub book_run : (u : List ℕ) → is_book u ≡ true → is_run u ≡ true
unfolding is_book
book_run u e = ((and-eq-true_iff (is_run u) (distinct (accounts u))).0 e).0

pub book_distinct : (u : List ℕ) → is_book u ≡ true → distinct (accounts u) ≡ true
unfolding is_book
book_distinct u e = ((and-eq-true_iff (is_run u) (distinct (accounts u))).0 e).1

module _ (u : List ℕ) (h : AllBytes u) (book : is_book u ≡ true) (n : ℕ) where
  abbrev l : List Account
  l = accounts u

  abbrev place : ℕ
  place = place_of n l

  all_bytes : encode_all l ≡ u
  all_bytes = accounts_written u h (run u (book_run u book))

  module _ (e : has n l ≡ true) where
    abbrev p : List ℕ
    p = encode_all (before n l)

    abbrev a : List ℕ
    a = encode (found n l)

    abbrev q : List ℕ
    q = encode_all (behind n l)

    in_parts : u ≡ p ++ (a ++ q)
    in_parts = sym all_bytes ∙ split_bytes n l e

    pub at_place : drop place u ≡ a ++ q
    at_place = ap (drop place) in_parts ∙ drop_at p (a ++ q) place (place_before n l)

    up_to_place : take place u ≡ p
    up_to_place = ap (take place) in_parts ∙ take_at p (a ++ q) place (place_before n l)

    past_it : drop (place + length a) u ≡ q
    past_it = sym (drop-drop (length a) place u) ∙ ap (drop (length a)) at_place ∙ drop_at a q (length a) refl

  pub found_good : has n l ≡ true → Good (found n l)
  found_good e = all_good (before n l) (found n l) (behind n l) (subst (All Good) (split n l e) (accounts_good u h))
    where
      all_good : (x : List Account) (y : Account) (z : List Account) → All Good (x ++ (y ∷ z)) → Good y
      all_good [] y z g = g.0
      all_good (w ∷ x) y z g = all_good x y z g.1

  -- the account at the place
  pub found-whole : has n l ≡ true → is_whole (drop place u) ≡ true
  found-whole e = ap is_whole (at_place e) ∙ whole_read (found n l) (found_good e) (encode_all (behind n l))

  pub found-account : has n l ≡ true → account_of (drop place u) ≡ found n l
  found-account e = ap account_of (at_place e) ∙ account_read (found n l) (found_good e) (encode_all (behind n l))

  -- what the reader tells at the place
  pub found_entry : has n l ≡ true → entry_of (drop place u) ≡ entry (found n l)
  found_entry e = ap entry_of (at_place e) ∙ entry_read (found n l) (found_good e) (encode_all (behind n l))

  pub missing_entry : has n l ≡ false → (entry_of (drop place u)).size ≡ 0
  missing_entry e =
      let end : length (drop place u) ≡ 0 = omega (arith, length-drop place u, missing-place n l e, ap length all_bytes) in
      omega (arith, entry_fits (drop place u))

  abbrev size : ℕ
  size = (entry_of (drop place u)).size

  -- the bytes of the others are those before the account and those behind it
  pub others_bytes : encode_all (without n l) ≡ take place u ++ drop (place + size) u
  others_bytes = go (has n l) refl
    where
      go : (b : Bool) → has n l ≡ b → encode_all (without n l) ≡ take place u ++ drop (place + size) u
      go true e =
          let long : length (encode (found n l)) ≡ size = length-encode (found n l) ∙ sym (ap (λ (x : Entry). x.size) (found_entry e)) in
          ap encode_all (without-found n l e (book_distinct u book)) ∙ encode-append (before n l) (behind n l)
          ∙ ap₂ (λ (x y : List ℕ). x ++ y) (sym (up_to_place e)) (sym (past_it e) ∙ ap (λ (k : ℕ). drop (place + k) u) long)
      go false e =
          let end : length u ≤ place = omega (arith, missing-place n l e, ap length all_bytes) in
          ap encode_all (without_none n l e) ∙ all_bytes
          ∙ sym (ap₂ (λ (x y : List ℕ). x ++ y) (take_all place u end) (drop_of_length-le u {i = place + size} (omega arith)) ∙ append-nil u)

  pub others_length : length (encode_all (without n l)) + size ≡ length u
  others_length =
      let inside = entry_fits (drop place u) in
      let most = place_most n l in
      omega (
        arith,
        ap length others_bytes,
        length-append (take place u) (drop (place + size) u),
        length-take-le place u (omega (arith, ap length all_bytes)),
        length-drop (place + size) u,
        length-drop place u,
        ap length all_bytes,
      )
