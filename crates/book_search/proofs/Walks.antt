-- A loop over a reader's accounts, which counts their bytes: what is known of the place that it has come to. Assumes nothing.
use mathlib.Core.Path.{◌≡◌, ap}
use Prim.Native.Nat.{ℕ, ◌+◌}
use native.Mathlib.Omega.{arith}
use mathlib.Core.List.{List}
use lib.Dec.{eqb}
use lib.ListN.{length, drop}
use Rattle.std.specs.Prelude.{None, Some}
use Rattle.accounts.specs.declared.Entry.{Entry}
use Rattle.accounts.specs.Accounts.{encode_all, accounts}
use Rattle.accounts.specs.Book.{place_of, is_run}
use Rattle.accounts.proofs.Walking.{none_length, Counted, counted_more, Searched, searched_found, searched_more, searched_end}
use Rattle.account_reader.specs.declared.Reader.{Reader}
use Rattle.account_reader.specs.Steps.{Steps}
use Rattle.account_reader.proofs.StepLaws.{Stands, ended, told, behind, before_end, run_over}

module _ {book : List ℕ} {at : ℕ} {s : Reader} (q : Stands book at s) where
  -- ---- whether the bytes are a run

  module _ (counted : Counted book at) where
    pub run_more : {t : Reader} {e : Entry} → Steps s (Some e) t → Counted book (at + e.size)
    run_more k = let more = before_end q k in counted_more counted (behind q k) (λ z. omega arith)

    pub run_end : {t : Reader} → Steps s None t → eqb at (length book) ≡ is_run book
    run_end k =
        let none = none_length (drop at book) (ended q k) in
        let all : at ≡ length (encode_all (accounts book)) = omega (arith, counted.so_far) in
        ap (λ (n : ℕ). eqb n (length book)) all

  -- ---- the account of a number

  module _ {number : ℕ} (searched : Searched number book at) where
    pub search_found : {t : Reader} {e : Entry} → Steps s (Some e) t → e.number ≡ number → at ≡ place_of number (accounts book)
    search_found k e = let more = before_end q k in searched_found searched (omega arith) (told q k).1 e

    pub search_more : {t : Reader} {e : Entry} → Steps s (Some e) t → (e.number ≡ number → ⊥) → Searched number book (at + e.size)
    search_more k other = let more = before_end q k in searched_more searched (omega arith) (told q k).1 other (behind q k)

    pub search_end : {t : Reader} → Steps s None t → at ≡ place_of number (accounts book)
    search_end k = searched_end searched (run_over searched.running (ended q k))
