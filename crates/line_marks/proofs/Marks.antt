-- What follows from the marks that stand, and from the one that is missing. Assumes nothing.
use mathlib.Core.Path.{◌≡◌, refl, sym, ap, subst, ◌∙◌}
use mathlib.Core.Bool.{Bool, true, false, ◌&&◌, and-false}
use Prim.Native.Nat.{ℕ, ◌+◌}
use native.Mathlib.Omega.{arith}
use mathlib.Core.List.{List, [], ◌∷◌}
use denote.Ref.{Bor}
use lib.Dec.{eqb}
use lib.ListN.{length, take, drop}
use lib.Seq.{drop-drop, take-append_seam}
use borrow.Author.Tests.{eq-eqb, ne_eqb}
use Rattle.std.specs.Prelude.{Option, None}
use Rattle.std.specs.Cmp.Lexicographic.{pointwise}
use Rattle.lists.specs.Every.{same_bytes}
use Rattle.text.specs.Text.{stands_at}
use Rattle.line_form.specs.Line.{start_mark, rows_mark, columns_mark, text_mark, until, end_at, time_end, rows_end, columns_end, salt_end, is_marked}
use Rattle.line_form.proofs.Cuts.{until_splits}
use Rattle.line_marks.specs.declared.Texts.{Texts}
use Rattle.line_marks.specs.Cuts.{Cut, CutAt, TextsOf}

-- ---- the first c

pub until_none : (c : ℕ) → length (until c []) ≡ 0
unfolding until
until_none c = refl

pub until_hit : (c b : ℕ) (bs : List ℕ) → b ≡ c → length (until c (b ∷ bs)) ≡ 0
unfolding until
until_hit c b bs e = simp (eq-eqb b c e)

pub until_miss : (c b : ℕ) (bs : List ℕ) → (b ≡ c → ⊥) → length (until c (b ∷ bs)) ≡ length (until c bs) + 1
unfolding until
until_miss c b bs e = simp (ne_eqb b c e) (omega arith)

pub take-until : (c : ℕ) (part : List ℕ) → take (length (until c part)) part ≡ until c part
take-until c part =
    ap (take (length (until c part))) (until_splits c part) ∙ take-append_seam (until c part) (drop (length (until c part)) part)

-- ---- a mark, as the library compares it

pub same : (xs ys : List ℕ) → pointwise eqb xs ys ≡ same_bytes xs ys
unfolding same_bytes
same [] [] = refl
same [] (y ∷ ys) = refl
same (x ∷ xs) [] = refl
same (x ∷ xs) (y ∷ ys) = ap (λ (b : Bool). eqb x y && b) (same xs ys)

-- the slices that std gives, by the place that was found
module _ (part : List ℕ) (c : ℕ) (mark : List ℕ) {behind : List ℕ} {place : ℕ} (is : place ≡ length (until c part)) (back : behind ≡ drop place part) where
  told : pointwise eqb (take (length mark) behind) mark ≡ stands_at part (length (until c part)) mark
  told = same (take (length mark) behind) mark ∙ ap (λ (l : List ℕ). same_bytes (take (length mark) l) mark) (back ∙ ap (λ (n : ℕ). drop n part) is)

  pub none_stands : pointwise eqb (take (length mark) behind) mark ≡ false → stands_at part (length (until c part)) mark ≡ false
  none_stands h = sym told ∙ h

  pub cut_here : {text rest : List ℕ} → text ≡ take place part → pointwise eqb (take (length mark) behind) mark ≡ true → rest ≡ drop (length mark) behind
      → Cut part c mark text rest
  cut_here front h is_rest =
      record {
        text_is = front ∙ ap (λ (n : ℕ). take n part) is ∙ take-until c part;
        stands = sym told ∙ h;
        rest_is =
            is_rest ∙ ap (drop (length mark)) (back ∙ ap (λ (n : ℕ). drop n part) is) ∙ drop-drop (length mark) (length (until c part)) part;
      }

pub not_cut : (part : List ℕ) (c : ℕ) (mark : List ℕ) {r : Option (Bor (List ℕ) × Bor (List ℕ))} → r ≡ None
    → stands_at part (length (until c part)) mark ≡ false → CutAt part c mark r
not_cut part c mark is h = subst (CutAt part c mark) (sym is) h

-- ---- a cut of what stands behind a place of the line

module _ (l : List ℕ) (a c : ℕ) (mark : List ℕ) {part : List ℕ} (e : part ≡ drop a l) where
  there : stands_at part (length (until c part)) mark ≡ stands_at l (end_at c l a) mark
  unfolding end_at
  there =
      ap (λ (p : List ℕ). stands_at p (length (until c p)) mark) e
      ∙ ap (λ (p : List ℕ). same_bytes (take (length mark) p) mark) (drop-drop (length (until c (drop a l))) a l)

  pub missing : stands_at part (length (until c part)) mark ≡ false → stands_at l (end_at c l a) mark ≡ false
  missing h = sym there ∙ h

  module _ {text rest : List ℕ} (k : Cut part c mark text rest) where
    pub text_here : text ≡ until c (drop a l)
    text_here = k.text_is ∙ ap (until c) e

    pub stands_here : stands_at l (end_at c l a) mark ≡ true
    stands_here = sym there ∙ k.stands

    pub rest_here : rest ≡ drop (end_at c l a + length mark) l
    unfolding end_at
    rest_here =
        let n = length (until c (drop a l)) in
        let place : a + (n + length mark) ≡ a + n + length mark = omega arith in
        k.rest_is ∙ ap (λ (p : List ℕ). drop (length (until c p) + length mark) p) e ∙ drop-drop (n + length mark) a l
        ∙ ap (λ (k : ℕ). drop k l) place

-- ---- a mark that is missing

module _ (l : List ℕ) where
  pub no_texts : {r : Option Texts} → r ≡ None → is_marked l ≡ false → TextsOf l r
  no_texts is h = subst (TextsOf l) (sym is) h

  pub no_start : stands_at l 0 start_mark ≡ false → is_marked l ≡ false
  unfolding is_marked
  no_start h = simp h

  pub no_rows : stands_at l (time_end l) rows_mark ≡ false → is_marked l ≡ false
  unfolding is_marked
  no_rows h = simp (h, and-false)

  pub no_columns : stands_at l (rows_end l) columns_mark ≡ false → is_marked l ≡ false
  unfolding is_marked
  no_columns h = simp (h, and-false)

  pub no_salt : stands_at l (columns_end l) text_mark ≡ false → is_marked l ≡ false
  unfolding is_marked
  no_salt h = simp (h, and-false)

  pub no_key : stands_at l (salt_end l) text_mark ≡ false → is_marked l ≡ false
  unfolding is_marked
  no_key h = simp (h, and-false)

  -- ---- all marks

  pub all_marked : stands_at l 0 start_mark ≡ true → stands_at l (time_end l) rows_mark ≡ true → stands_at l (rows_end l) columns_mark ≡ true
      → stands_at l (columns_end l) text_mark ≡ true → stands_at l (salt_end l) text_mark ≡ true → is_marked l ≡ true
  unfolding is_marked
  all_marked a b c d e = simp (a, b, c, d, e)
