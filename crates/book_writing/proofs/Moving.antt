-- The bytes that move up, with zeros behind them: what is read was not yet written. Assumes nothing.
use mathlib.Core.Path.{◌≡◌, refl, sym, ap, ◌∙◌}
use mathlib.Core.List.{List, ◌++◌}
use Prim.Native.Nat.{ℕ, ◌+◌, ◌-◌, ◌≤◌, ◌<◌}
use native.Mathlib.Omega.{arith}
use lib.Dec.{ltb}
use mathlib.Core.Bool.{Bool, true, false}
use lib.ListN.{length, get_or, take, drop, replicate, length-append, length-drop, length-replicate, get_or-replicate, get_or-append, get_or-eq_default}
use lib.Seq.{get_or-take, get_or-drop, get_or-append-add, length-take-le}
use borrow.Author.Tests.{ltb-true, ltb-false}
use Rattle.lists.proofs.Placed.{Placed}
use Rattle.lists.proofs.Putting.{get_or-after}

-- the bytes from a place on, and zeros for those that are no longer used
abbrev pub later : List ℕ → ℕ → ℕ → List ℕ
later book used from = drop from (take used book)

abbrev pub moved : List ℕ → ℕ → ℕ → ℕ → List ℕ
moved book used place size = later book used (place + size) ++ replicate size 0

module _ (book : List ℕ) (used : ℕ) (h : used ≤ length book) where
  later-length : (from : ℕ) → length (later book used from) ≡ used - from
  later-length from = omega (arith, length-drop from (take used book), length-take-le used book h)

  pub later_at : (from i : ℕ) → i < used - from → get_or (later book used from) i 0 ≡ get_or book (from + i) 0
  later_at from i lt = get_or-drop from (take used book) i 0 ∙ get_or-take used book (from + i) 0 (omega arith)

  pub later_end : (from i : ℕ) → used - from ≤ i → get_or (later book used from) i 0 ≡ 0
  later_end from i le = get_or-eq_default (later book used from) 0 {n = i} (omega (arith, later-length from))

  pub moved_length : (place size : ℕ) → place + size ≤ used → length (moved book used place size) ≡ used - place
  moved_length place size fits =
      omega (arith, length-append (later book used (place + size)) (replicate size 0), later-length (place + size), length-replicate {A = ℕ} size 0)

  moved_at : (place size i : ℕ) → place + size ≤ used → i < used - (place + size) → get_or (moved book used place size) i 0 ≡ get_or book (place + size + i) 0
  moved_at place size i fits lt =
      get_or-append (later book used (place + size)) (replicate size 0) 0 i (omega (arith, later-length (place + size))) ∙ later_at (place + size) i lt

  moved-zero : (place size i : ℕ) → place + size ≤ used → used - (place + size) ≤ i → i < used - place → get_or (moved book used place size) i 0 ≡ 0
  moved-zero place size i fits le lt =
      let l = later book used (place + size) in
      let split : i ≡ length l + (i - length l) = omega (arith, later-length (place + size)) in
      ap (λ (k : ℕ). get_or (moved book used place size) k 0) split ∙ get_or-append-add l (replicate size 0) (i - length l) 0
      ∙ get_or-replicate size (i - length l) 0 0 (omega (arith, later-length (place + size)))

-- what the loop reads from the list so far is what has to be put
pub read_before_written : (book now : List ℕ) (used place size i : ℕ) → used ≤ length book → place + size ≤ used → i < used - place
    → Placed (λ x y. y) place book (moved book used place size) now i (used - place)
    → get_or (later now used (place + size)) i 0 ≡ get_or (moved book used place size) i 0
read_before_written book now used place size i h fits lt q = go (ltb i (used - (place + size))) refl
  where
    h' : used ≤ length now
    h' = omega (arith, q.long)

    go : (b : Bool) → ltb i (used - (place + size)) ≡ b → get_or (later now used (place + size)) i 0 ≡ get_or (moved book used place size) i 0
    go true e =
        let more = ltb-true i (used - (place + size)) e in
        later_at now used h' (place + size) i more ∙ ap (λ (l : List ℕ). get_or l (place + size + i) 0) q.so_far
        ∙ get_or-after (λ x y. y) place (place + size + i) book (take i (moved book used place size))
        (omega (arith, length-take-le i (moved book used place size) (omega (arith, q.whole))))
        ∙ sym (moved_at book used h place size i fits more)
    go false e =
        let end = ltb-false i (used - (place + size)) e in
        later_end now used h' (place + size) i end ∙ sym (moved-zero book used h place size i fits end lt)
