-- A step of a reader, by what its place tells. Assumes nothing.
use mathlib.Core.Path.{◌≡◌, refl, sym, ap, ap₂, ◌∙◌}
use Prim.Native.Nat.{ℕ, ◌+◌, ◌≤◌, ◌<◌}
use native.Mathlib.Decide.{dec_lt}
use native.Mathlib.Omega.{arith}
use mathlib.Core.Bool.{true, false, true≢false}
use mathlib.Core.List.{List}
use denote.Ref.{Bor}
use lib.ListN.{length, drop, length-drop}
use Rattle.std.specs.Prelude.{Option, Some, None}
use Rattle.accounts.specs.declared.Entry.{Entry}
use Rattle.accounts.specs.Accounts.{is_whole, whole_entry, nothing, entry_of}
use Rattle.accounts.specs.Book.{Running}
use Rattle.accounts.proofs.Decoding.{size_is, cut_off, whole_none, some_whole, no_whole, entry_none, entry_fits}
use Rattle.accounts.proofs.Walking.{step_moves, running_whole}
use Rattle.account_reader.specs.declared.Reader.{Reader}
use Rattle.account_reader.specs.Steps.{Steps}

pub none_past : (book : List ℕ) (at : ℕ) → length book < at → None ≡ whole_entry (drop at book)
none_past book at h = let u = drop at book in sym (whole_none u (cut_off u (omega (arith, size_is u, length-drop at book))))

module _ (s : Reader) where
  abbrev here : List ℕ
  here = drop s.at s.book.now

  pub stays : {r : Option Entry} → r ≡ None → None ≡ whole_entry here → Steps s r s
  unfolding nothing
  stays is none =
      let size = ap (λ (e : Entry). e.size) (entry_none here (no_whole here none)) in
      record { account = is ∙ none; same_book = refl; place = omega (arith, size) }

  module _ {e : Entry} (some : Some e ≡ whole_entry here) where
    size_same : e.size ≡ (entry_of here).size
    size_same = ap (λ (x : Entry). x.size) (some_whole here some).1

    pub inside : s.at + e.size ≤ length s.book.now
    inside = omega (arith, size_same, entry_fits here, step_moves here (some_whole here some).0, length-drop s.at s.book.now)

    pub moves : 0 < e.size
    moves = omega (arith, size_same, step_moves here (some_whole here some).0)

    pub steps : Steps s (Some e) (record { book = s.book; at = s.at + e.size })
    steps = record { account = some; same_book = refl; place = omega (arith, size_same) }

-- ---- what is known of a reader at a place of a book, and of the next step

pub record Stands (book : List ℕ) (at : ℕ) (s : Reader) : Type 0 where
  pub same_book : s.book.now ≡ book
  pub same_place : s.at ≡ at

module _ {book : List ℕ} {at : ℕ} {s : Reader} (q : Stands book at s) where
  same_here : drop s.at s.book.now ≡ drop at book
  same_here = ap₂ (λ (n : ℕ) (l : List ℕ). drop n l) q.same_place q.same_book

  pub ended : {t : Reader} → Steps s None t → is_whole (drop at book) ≡ false
  ended k = no_whole (drop at book) (k.account ∙ ap whole_entry same_here)

  pub stays_at : {t : Reader} → Steps s None t → t.at ≡ s.at
  unfolding nothing
  stays_at k =
      let size = ap (λ (e : Entry). e.size) (entry_none (drop s.at s.book.now) (no_whole (drop s.at s.book.now) k.account)) in
      omega (arith, k.place, size)

  module _ {t : Reader} {e : Entry} (k : Steps s (Some e) t) where
    pub told : (is_whole (drop at book) ≡ true) × (e ≡ entry_of (drop at book))
    told = some_whole (drop at book) (k.account ∙ ap whole_entry same_here)

    size_told : e.size ≡ (entry_of (drop at book)).size
    size_told = ap (λ (x : Entry). x.size) told.1

    -- the place behind the account
    pub behind : at + e.size ≡ at + (entry_of (drop at book)).size
    behind = ap (λ (n : ℕ). at + n) size_told

    pub before_end : (0 < e.size) × (at + e.size ≤ length book)
    before_end =
        let more = step_moves (drop at book) told.0 in
        (omega (arith, size_told), omega (arith, size_told, entry_fits (drop at book), length-drop at book))

    pub stands_behind : Stands book (at + e.size) t
    stands_behind =
        record {
          same_book = ap (λ (b : Bor (List ℕ)). b.now) k.same_book ∙ q.same_book;
          same_place = k.place ∙ (λ i. q.same_place i + (entry_of (same_here i)).size) ∙ sym behind;
        }

-- in a run a reader stops at the end alone
pub run_over : {book : List ℕ} {at : ℕ} → Running book at → is_whole (drop at book) ≡ false → length book ≤ at
run_over {book} {at} q none =
    elim (dec_lt at (length book)) [
      | yes more ↦ absurd (true≢false (sym (running_whole q more) ∙ none))
      | no end ↦ omega arith
    ]
