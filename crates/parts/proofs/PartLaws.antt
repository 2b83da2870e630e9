-- A part of a matrix has the matrix' cells, and a write to one's own part is one to the matrix around it. Assumes nothing.
use mathlib.Core.Path.{◌≡◌, refl, sym, ap, ap₂, ◌∙◌}
use mathlib.Core.Bool.{Bool, true, false, cond}
use Prim.Native.Nat.{ℕ, ◌+◌, ◌-◌, ◌≤◌}
use native.Mathlib.Omega.{arith}
use mathlib.Core.List.{List, [], ◌∷◌, ◌++◌, append_assoc}
use lib.ListN.{length, take, drop, length-drop}
use lib.Seq.{take-take, drop-drop, take-append_seam, drop-append_seam, take-append-le, drop-append-le, take-append-add, drop-append-add}
use lib.Dec.{eqb}
use Rattle.lists.specs.Zip.{zip_into, zip_at}
use Rattle.lists.proofs.Parts.{drop-take}
use Rattle.matrix.specs.Cells.{cell_from}
use Rattle.parts.specs.Parts.{around, found_in, found_words}

-- ---- cells of a part

-- n words from word b on
pub cell_of_part : (a b n : ℕ) (m : List ℕ) → a + 12 ≤ n → cell_from a (take n (drop b m)) ≡ cell_from (b + a) m
unfolding cell_from
cell_of_part a b n m fits =
    let split : n ≡ a + (n - a) = omega arith in
    ap (λ (k : ℕ). take 12 (drop a (take k (drop b m)))) split
    ∙ ap (take 12) (drop-take a (n - a) (drop b m))
    ∙ take-take 12 (n - a) (drop a (drop b m)) (omega arith)
    ∙ ap (take 12) (drop-drop a b m)

own_part : (before after own : List ℕ) → take (length own) (drop (length before) (around before after own)) ≡ own
own_part before after own = ap (take (length own)) (drop-append_seam before (own ++ after)) ∙ take-append_seam own after

module _ (before after own : List ℕ) (a : ℕ) where
  pub own_cell : a + 12 ≤ length own → cell_from a own ≡ cell_from (length before + a) (around before after own)
  own_cell fits = ap (cell_from a) (sym (own_part before after own)) ∙ cell_of_part a (length before) (length own) (around before after own) fits

  -- ---- a write
  zip_append : (f : ℕ → ℕ → ℕ) (xs zs ys : List ℕ) → length ys ≤ length xs → zip_into f (xs ++ zs) ys ≡ zip_into f xs ys ++ zs
  unfolding zip_into
  zip_append f [] [] [] le = refl
  zip_append f [] (z ∷ zs) [] le = refl
  zip_append f [] zs (y ∷ ys) le = absurd (omega arith)
  zip_append f (x ∷ xs) zs [] le = refl
  zip_append f (x ∷ xs) zs (y ∷ ys) le = ap (λ (l : List ℕ). f x y ∷ l) (zip_append f xs zs ys (omega arith))

  pub own_write : (f : ℕ → ℕ → ℕ) (words : List ℕ) → a + length words ≤ length own
      → zip_at f (length before + a) (around before after own) words ≡ around before after (zip_at f a own words)
  unfolding zip_at
  own_write f words fits =
      let inside : a ≤ length own = omega arith in
      let left : length words ≤ length (drop a own) = simp (length-drop) (omega arith) in
      let front = take-append-add before (own ++ after) a ∙ ap (λ (l : List ℕ). before ++ l) (take-append-le a own after inside) in
      let back = drop-append-add before (own ++ after) a ∙ drop-append-le a own after inside in
      ap₂ (λ (x y : List ℕ). x ++ zip_into f y words) front back
      ∙ ap (λ (l : List ℕ). (before ++ take a own) ++ l) (zip_append f (drop a own) after words left)
      ∙ append_assoc before (take a own) _
      ∙ ap (λ (l : List ℕ). before ++ l) (sym (append_assoc (take a own) (zip_into f (drop a own) words) after))

-- ---- rows that are found

pub found-words : (own lent : List ℕ) → length (found_in own lent) ≡ found_words (length own) lent
unfolding found_in
found-words own lent = by (eqb (length lent) 0)
  where
    by : (b : Bool) → length (cond b own lent) ≡ cond b (length own) (length lent)
    by true = refl
    by false = refl
