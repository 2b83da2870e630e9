-- Laws of the rotation and of cells. Assumes nothing.
use mathlib.Core.Path.{◌≡◌, sym, ap, ap₂, ◌∙◌}
use mathlib.Core.Logic.{◌⊎◌, inl, inr}
use Prim.Native.Nat.{ℕ, ◌+◌, ◌-◌, ◌%◌, ◌<◌, ◌≤◌}
use native.Mathlib.Omega.{arith}
use native.Mathlib.Nat.{add-sub_cancel_left}
use mathlib.Core.List.{List, ◌++◌}
use lib.ListN.{length, get_or, take, drop, length-take, length-drop}
use lib.Bits.{bit_xor, xor_comm}
use Rattle.lists.specs.Zip.{zip_at, xor_into, tabulate}
use Rattle.lists.proofs.Words.{AllWords}
use Rattle.lists.proofs.ZipLaws.{length_zip, length-tabulate, get_or-tabulate, tabulate-words, put_zip}
use Rattle.lists.proofs.Parts.{part_before, part_after, apart_swap, zip_at_swap}
use Rattle.mixer.proofs.WordLaws.{xor_assoc}
use Rattle.rate.specs.Rate.{rand}
use Rattle.rate.proofs.Words.{get_or-rand}
use Rattle.matrix.specs.Cells.{cell_from, ApartCells, rotated}

pub length-rotated : (ω : ℕ) (words : List ℕ) → length (rotated ω words) ≡ 12
unfolding rotated
length-rotated ω words = length-tabulate 12 (λ j. get_or words ((j + ω) % 12) 0)

pub get_or-rotated : (ω : ℕ) (words : List ℕ) (j : ℕ) → j < 12 → get_or (rotated ω words) j 0 ≡ get_or words ((j + ω) % 12) 0
unfolding rotated
get_or-rotated ω words j h = get_or-tabulate 12 (λ k. get_or words ((k + ω) % 12) 0) j h

pub rotated-words : (ω : ℕ) (words : List ℕ) → AllWords words → AllWords (rotated ω words)
unfolding rotated
rotated-words ω words h = tabulate-words 12 (λ k. get_or words ((k + ω) % 12) 0) (λ k. h ((k + ω) % 12))

-- the rotation takes the first twelve words, so that of a state is that of its output; and twelve words on, every word is in its place
-- again
pub rotated_state : (ω : ℕ) (s : List ℕ) → rotated (ω % 12) s ≡ rotated ω (rand s)
unfolding rotated
rotated_state ω s =
    let around : (j : ℕ) → (j + ω % 12) % 12 ≡ (j + ω) % 12 = λ j. omega arith in
    let inside : (j : ℕ) → (j + ω) % 12 < 12 = λ j. omega arith in
    let word : (j : ℕ) → get_or s ((j + ω % 12) % 12) 0 ≡ get_or (rand s) ((j + ω) % 12) 0 = λ j. ap (λ (k : ℕ). get_or s k 0) (around j) ∙ sym (get_or-rand s ((j + ω) % 12) (inside j)) in
    λ i. tabulate 12 (λ j. word j i)

module _ (a : ℕ) (m : List ℕ) (fits : a + 12 ≤ length m) where
  pub length_cell : length (cell_from a m) ≡ 12
  unfolding cell_from
  length_cell = simp (length-take, length-drop) (omega arith)

-- the part that the code cuts out
pub cell_part : (a p : ℕ) (m : List ℕ) → a ≡ p → take (a + 12 - a) (drop a m) ≡ cell_from p m
unfolding cell_from
cell_part a p m e = ap₂ (λ (n k : ℕ). take n (drop k m)) (add-sub_cancel_left a 12) e

-- a cell XORed with words and put back has them XORed into it
pub put-xored : (a : ℕ) (m words : List ℕ) → length words ≡ 12 → zip_at (λ x y. y) a m (xor_into (cell_from a m) words) ≡ zip_at bit_xor a m words
unfolding cell_from zip_at
put-xored a m words h = ap (λ (l : List ℕ). take a m ++ l) (put_zip bit_xor 12 (drop a m) words (omega (arith, h)))

-- a cell of any list, XORed with words
pub length-xored : (a : ℕ) (m words : List ℕ) → length (xor_into (cell_from a m) words) ≤ 12
unfolding cell_from
length-xored a m words = omega (arith, length_zip bit_xor (cell_from a m) words, length-take 12 (drop a m))

-- a cell stays as it is where words are XORed into another, and the other may be changed before it or after it
module _ (a b : ℕ) (m words : List ℕ) (len : length words ≡ 12) where
  pub cell_apart : ApartCells b a → cell_from a (zip_at bit_xor b m words) ≡ cell_from a m
  unfolding cell_from
  cell_apart (inl before) = part_after bit_xor b a 12 m words (omega arith)
  cell_apart (inr after) = part_before bit_xor b a 12 m words after

  pub apart_order : (f : ℕ → ℕ → ℕ) (others : List ℕ) → length others ≤ 12 → ApartCells b a → zip_at f a (zip_at bit_xor b m words) others ≡ zip_at bit_xor b (zip_at f a m others) words
  apart_order f others short (inl before) = apart_swap f bit_xor a b m others words (omega arith)
  apart_order f others short (inr after) = sym (apart_swap bit_xor f b a m words others (omega arith))

-- a cell written from another one XORed with words, and other words XORed into a cell: in either order where the first write is an XOR too,
-- or where the second cell is apart from both
module _ (from to back : ℕ) (m out turned : List ℕ) (long : length out ≡ 12) (long' : length turned ≡ 12) where
  abbrev written : List ℕ → List ℕ
  written l = zip_at (λ x y. y) to l (xor_into (cell_from from l) out)

  pub either_order : (from ≡ to) ⊎ (ApartCells back from × ApartCells back to)
      → written (zip_at bit_xor back m turned) ≡ zip_at bit_xor back (written m) turned
  either_order (inl one) =
      let xored : (l : List ℕ) → written l ≡ zip_at bit_xor to l out = λ l. ap (λ (n : ℕ). zip_at (λ x y. y) to l (xor_into (cell_from n l) out)) one ∙ put-xored to l out long in
      let turns : (u x y : ℕ) → bit_xor (bit_xor u y) x ≡ bit_xor (bit_xor u x) y = λ u x y. xor_assoc u y x ∙ ap (bit_xor u) (xor_comm y x) ∙ sym (xor_assoc u x y) in
      xored (zip_at bit_xor back m turned) ∙ zip_at_swap bit_xor bit_xor turns to back m out turned
      ∙ ap (λ (l : List ℕ). zip_at bit_xor back l turned) (sym (xored m))
  either_order (inr apart) =
      ap (λ (l : List ℕ). zip_at (λ x y. y) to (zip_at bit_xor back m turned) (xor_into l out)) (cell_apart from back m turned long' apart.0)
      ∙ apart_order to back m turned long' (λ x y. y) (xor_into (cell_from from m) out) (length-xored from m out) apart.1
