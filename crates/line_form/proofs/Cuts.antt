-- A text that ends before the first byte of a mark: what is known of a line where the mark stands, and of a line that was joined so.
-- Assumes nothing.
use mathlib.Core.Path.{◌≡◌, refl, sym, ap, ap₂, ◌∙◌}
use mathlib.Core.Bool.{Bool, true, false, cond, not, and-eq-true_iff}
use Prim.Native.Nat.{ℕ, suc, ◌+◌}
use mathlib.Core.List.{List, [], ◌∷◌, ◌++◌}
use lib.Dec.{eqb}
use lib.ListN.{length, take, drop}
use lib.Seq.{drop-drop, take-append_seam, drop-append_seam}
use borrow.Author.Tests.{eq-eqb, not-true}
use Rattle.lists.specs.Every.{every, same_bytes}
use Rattle.lists.proofs.EveryLaws.{same_of_equal}
use Rattle.text.specs.Text.{stands_at}
use Rattle.text.proofs.Standing.{stands}
use Rattle.line_form.specs.Line.{until, end_at}

-- no byte is c
abbrev pub lacks : ℕ → List ℕ → Bool
lacks c = every (λ b. not (eqb b c))

-- ---- from a line to its texts

pub until_splits : (c : ℕ) (l : List ℕ) → l ≡ until c l ++ drop (length (until c l)) l
unfolding until
until_splits c [] = refl
until_splits c (b ∷ l) =
    elim (eqb b c) as (λ t. b ∷ l ≡ cond t [] (b ∷ until c l) ++ drop (length (cond t [] (b ∷ until c l))) (b ∷ l))
    [ true ↦ refl | false ↦ ap (λ (r : List ℕ). b ∷ r) (until_splits c l) ]

pub cut : (c : ℕ) (l : List ℕ) (a : ℕ) (mark : List ℕ) → stands_at l (end_at c l a) mark ≡ true
    → drop a l ≡ until c (drop a l) ++ (mark ++ drop (end_at c l a + length mark) l)
unfolding end_at
cut c l a mark e =
    let text = until c (drop a l) in
    until_splits c (drop a l) ∙ ap (λ (r : List ℕ). text ++ r) (drop-drop (length text) a l ∙ stands l (a + length text) mark e)

-- ---- from texts to the line that they make

until_lacking : (c : ℕ) (t rest : List ℕ) → lacks c t ≡ true → until c (t ++ (c ∷ rest)) ≡ t
unfolding until every
until_lacking c [] rest e = ap (λ (b : Bool). cond b [] (c ∷ until c rest)) (eq-eqb c c refl)
until_lacking c (b ∷ t) rest e =
    let both = (and-eq-true_iff (not (eqb b c)) (lacks c t)).0 e in
    ap (λ (s : Bool). cond s [] (b ∷ until c (t ++ (c ∷ rest)))) (not-true (eqb b c) both.0)
    ∙ ap (λ (r : List ℕ). b ∷ r) (until_lacking c t rest both.1)

-- a mark c ∷ m stands behind a text, and then the rest
pub record Cut (c : ℕ) (m l : List ℕ) (a : ℕ) (text rest : List ℕ) : Type 0 where
  pub text_is : until c (drop a l) ≡ text
  pub marked : stands_at l (end_at c l a) (c ∷ m) ≡ true
  pub rest_is : drop (end_at c l a + suc (length m)) l ≡ rest

pub cut_of : (c : ℕ) (m l : List ℕ) (a : ℕ) (t rest : List ℕ) → drop a l ≡ t ++ ((c ∷ m) ++ rest) → lacks c t ≡ true
    → Cut c m l a t rest
unfolding end_at
cut_of c m l a t rest e h =
    let text = ap (until c) e ∙ until_lacking c t (m ++ rest) h in
    let from : drop (a + length (until c (drop a l))) l ≡ (c ∷ m) ++ rest =
    sym (drop-drop (length (until c (drop a l))) a l) ∙ ap₂ (λ (u d : List ℕ). drop (length u) d) text e ∙ drop-append_seam t ((c ∷ m) ++ rest) in
    record {
      text_is = text;
      marked =
          ap (λ (d : List ℕ). same_bytes (take (suc (length m)) d) (c ∷ m)) from
          ∙ ap (λ (d : List ℕ). same_bytes d (c ∷ m)) (take-append_seam (c ∷ m) rest) ∙ same_of_equal (c ∷ m);
      rest_is =
          sym (drop-drop (suc (length m)) (a + length (until c (drop a l))) l) ∙ ap (drop (suc (length m))) from ∙ drop-append_seam (c ∷ m) rest;
    }
