-- The book in other words: its bytes and its accounts determine each other, and what one call leaves is the book that the next one finds.
-- Assumes nothing.
use mathlib.Core.Path.{◌≡◌, refl, sym, ap, ap₂, ◌∙◌}
use mathlib.Core.Logic.{◌↔◌}
use Prim.Native.Nat.{ℕ, ◌+◌, ◌-◌, ◌≤◌}
use native.Mathlib.Omega.{arith}
use mathlib.Core.Bool.{Bool, true, false, cond, not, ◌&&◌, ◌||◌, and-eq-true_iff}
use mathlib.Core.List.{List, [], ◌∷◌, ◌++◌}
use lib.Dec.{eqb}
use lib.ListN.{length, take, replicate, length-append, length-replicate}
use lib.Seq.{take_at, take-take}
use borrow.Author.Tests.{eq-eqb, ne_eqb, eqb-false, not-true}
use Rattle.lists.specs.Zip.{put_into}
use Rattle.lists.proofs.Grown.{All}
use Rattle.lists.proofs.ZipLaws.{put_front}
use Rattle.little_endian.proofs.ByteLaws.{AllBytes}
use Rattle.refusals.proofs.Accepted.{neither}
use Rattle.accounts.specs.Accounts.{Account, encode_all, accounts, Good}
use Rattle.accounts.specs.Book.{has, distinct, without, with, is_book, rewritten}
use Rattle.accounts.proofs.Walking.{run}
use Rattle.accounts.proofs.Inverse.{accounts_written, accounts_read, accounts_good}
use Rattle.accounts.proofs.Changing.{has-append, book_run, book_distinct}

-- ---- reading and writing are inverse

-- the bytes of a book are those of its accounts
pub read_then_written : (u : List ℕ) → AllBytes u → is_book u ≡ true → encode_all (accounts u) ≡ u
read_then_written u h e = accounts_written u h (run u (book_run u e))

-- good accounts are read from their bytes
pub written_then_read : (l : List Account) → All Good l → accounts (encode_all l) ≡ l
written_then_read = accounts_read

-- bytes are a book exactly when they are those of good accounts with distinct numbers
pub written_is_book : (l : List Account) → All Good l → distinct l ≡ true → is_book (encode_all l) ≡ true
unfolding is_book
written_is_book l g d =
    let back = accounts_read l g in
    ap₂ (λ (s t : Bool). s && t) (eq-eqb _ _ (ap (λ (m : List Account). length (encode_all m)) back)) (ap distinct back ∙ d)

pub book_is : (u : List ℕ) → AllBytes u → (is_book u ≡ true) ↔ ((l : List Account) × All Good l × (distinct l ≡ true) × (encode_all l ≡ u))
book_is u h = (
  λ e. (accounts u, accounts_good u h, book_distinct u e, read_then_written u h e),
  λ w. ap is_book (sym w.3) ∙ written_is_book w.0 w.1 w.2,
)

-- no two lists of good accounts have the same bytes
pub accounts-differ : (l m : List Account) → All Good l → All Good m → encode_all l ≡ encode_all m → l ≡ m
accounts-differ l m g h e = sym (accounts_read l g) ∙ ap accounts e ∙ accounts_read m h

-- ---- what adding and removing keep

good_without : (n : ℕ) (l : List Account) → All Good l → All Good (without n l)
unfolding without
good_without n [] g = tt
good_without n (a ∷ l) g =
    elim (eqb a.number n) as (λ b. All Good (cond b (without n l) (a ∷ without n l)))
    [ true ↦ good_without n l g.1 | false ↦ (g.0, good_without n l g.1) ]

good_append : (l m : List Account) → All Good l → All Good m → All Good (l ++ m)
good_append [] m g h = h
good_append (a ∷ l) m g h = (g.0, good_append l m g.1 h)

pub good_with : (a : Account) (l : List Account) → Good a → All Good l → All Good (with a l)
unfolding with
good_with a l g h = good_append (without a.number l) (a ∷ []) (good_without a.number l h) (g, tt)

-- a number that is removed is gone, and no other comes
pub removed_gone : (n : ℕ) (l : List Account) → has n (without n l) ≡ false
unfolding has without
removed_gone n [] = refl
removed_gone n (a ∷ l) = go (eqb a.number n) refl (removed_gone n l)
  where
    go : (b : Bool) → eqb a.number n ≡ b → has n (without n l) ≡ false → has n (cond (eqb a.number n) (without n l) (a ∷ without n l)) ≡ false
    go true h more = ap (λ (t : Bool). has n (cond t (without n l) (a ∷ without n l))) h ∙ more
    go false h more = ap (λ (t : Bool). has n (cond t (without n l) (a ∷ without n l))) h ∙ ap (λ (t : Bool). t || has n (without n l)) h ∙ more

has-without : (n k : ℕ) (l : List Account) → has k l ≡ false → has k (without n l) ≡ false
unfolding has without
has-without n k [] e = refl
has-without n k (a ∷ l) e =
    let both = neither (eqb a.number k) (has k l) e in
    elim (eqb a.number n) as (λ b. has k (cond b (without n l) (a ∷ without n l)) ≡ false)
    [ true ↦ has-without n k l both.1 | false ↦ ap₂ (λ (s t : Bool). s || t) both.0 (has-without n k l both.1) ]

distinct_without : (n : ℕ) (l : List Account) → distinct l ≡ true → distinct (without n l) ≡ true
unfolding distinct without
distinct_without n [] d = refl
distinct_without n (a ∷ l) d =
    let parts = (and-eq-true_iff (not (has a.number l)) (distinct l)).0 d in
    elim (eqb a.number n) as (λ b. distinct (cond b (without n l) (a ∷ without n l)) ≡ true) [
      | true ↦ distinct_without n l parts.1
      | false ↦ ap₂ (λ (s t : Bool). not s && t) (has-without n a.number l (not-true _ parts.0)) (distinct_without n l parts.1)
    ]

distinct_last : (l : List Account) (a : Account) → distinct l ≡ true → has a.number l ≡ false → distinct (l ++ (a ∷ [])) ≡ true
unfolding distinct has
distinct_last [] a d e = refl
distinct_last (b ∷ l) a d e =
    let parts = (and-eq-true_iff (not (has b.number l)) (distinct l)).0 d in
    let both = neither (eqb b.number a.number) (has a.number l) e in
    let other : eqb a.number b.number ≡ false = ne_eqb a.number b.number (λ z. absurd (eqb-false b.number a.number both.0 (sym z))) in
    let alone : has b.number (l ++ (a ∷ [])) ≡ false =
    has-append b.number l (a ∷ []) ∙ ap₂ (λ (s t : Bool). s || (t || false)) (not-true (has b.number l) parts.0) other in
    ap₂ (λ (s t : Bool). not s && t) alone (distinct_last l a parts.1 both.1)

pub distinct-with : (a : Account) (l : List Account) → distinct l ≡ true → distinct (with a l) ≡ true
unfolding with
distinct-with a l d = distinct_last (without a.number l) a (distinct_without a.number l d) (removed_gone a.number l)

-- the account that was added is there
pub added_there : (a : Account) (l : List Account) → has a.number (with a l) ≡ true
unfolding with has
added_there a l = has-append a.number (without a.number l) (a ∷ []) ∙ ap₂ (λ (s t : Bool). s || (t || false)) (removed_gone a.number l) (eq-eqb a.number a.number refl)

-- ---- the next call

-- what is used of a slice that was written anew is the accounts, and they are a book
module _ (l : List Account) (g : All Good l) (d : distinct l ≡ true) (used : ℕ) (book : List ℕ) (fits : length (encode_all l) ≤ length book) (old : used ≤ length book) where
  pub used_after_lem : take (length (encode_all l)) (rewritten l used book) ≡ encode_all l
  unfolding rewritten
  used_after_lem =
      let zs : List ℕ = replicate (used - length (encode_all l)) 0 in
      let all = encode_all l ++ zs in
      let long : length all ≤ length book = omega (arith, length-append (encode_all l) zs, length-replicate {A = ℕ} (used - length (encode_all l)) 0) in
      sym (take-take (length (encode_all l)) (length all) (put_into book all) (omega (arith, length-append (encode_all l) zs)))
      ∙ ap (take (length (encode_all l))) (put_front book all long) ∙ take_at (encode_all l) zs (length (encode_all l)) refl

  pub accounts_after_lem : accounts (take (length (encode_all l)) (rewritten l used book)) ≡ l
  accounts_after_lem = ap accounts used_after_lem ∙ accounts_read l g

  pub book_after : is_book (take (length (encode_all l)) (rewritten l used book)) ≡ true
  book_after = ap is_book used_after_lem ∙ written_is_book l g d

-- an account put into a good book, and one taken out, leave a good book of these accounts
module _ (u : List ℕ) (h : AllBytes u) (e : is_book u ≡ true) where
  pub still_good_with : (a : Account) → Good a → All Good (with a (accounts u)) × (distinct (with a (accounts u)) ≡ true)
  still_good_with a g = (good_with a (accounts u) g (accounts_good u h), distinct-with a (accounts u) (book_distinct u e))

  pub still_good_without : (n : ℕ) → All Good (without n (accounts u)) × (distinct (without n (accounts u)) ≡ true)
  still_good_without n = (good_without n (accounts u) (accounts_good u h), distinct_without n (accounts u) (book_distinct u e))
