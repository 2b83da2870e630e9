-- Functions of four words at quads that share no position: those of two quads may change places, so that halves of G on all quads, one
-- half after the other, are G on one quad after another. Assumes nothing.
use mathlib.Core.Path.{◌≡◌, refl, sym, ap, ◌∙◌}
use mathlib.Core.Logic.{◌≢◌}
use Prim.Native.Nat.{ℕ}
use native.Mathlib.Omega.{arith}
use mathlib.Core.List.{List, [], ◌∷◌}
use lib.ListN.{length, get_or, set, take, drop, length-set}
use lib.Seq.{get_or-set_other, set_comm}
use Rattle.mixer.specs.declared.Words.{Words}
use Rattle.mixer.specs.G.{G, half_g}
use Rattle.profile.specs.declared.Quad.{Quad}
use Rattle.profile.specs.Profile.{quads}
use Rattle.permutation.specs.Round.{none, words_at, put_words, apply_at, at_all, AllInside, round}
use Rattle.permutation.proofs.Quads.{Spread, Each, each_at}
use Rattle.permutation.proofs.Undo.{words_at-put, put-put}

-- another position than those of a quad
abbrev Off : ℕ → Quad → Type 0
Off k q = (k ≢ q.0) × (k ≢ q.1) × (k ≢ q.2) × (k ≢ q.3)

-- no position of the one is one of the other
record Disjoint (p q : Quad) : Type 0 where
  first : Off p.0 q
  second : Off p.1 q
  third : Off p.2 q
  fourth : Off p.3 q

-- every quad of a list shares no position with a later one
abbrev SideBySide : List Quad → Type 0
SideBySide [] = Unit {0}
SideBySide (q ∷ qs) = Spread q × Each (Disjoint q) qs × SideBySide qs

module _ (q : Quad) (v : Words) (s : List ℕ) (k : ℕ) (off : Off k q) where
  read_past : get_or (put_words q v s) k 0 ≡ get_or s k 0
  unfolding put_words
  read_past =
      let s₁ = set s q.0 v.a in
      let s₂ = set s₁ q.1 v.b in
      let s₃ = set s₂ q.2 v.c in
      get_or-set_other s₃ q.3 k v.d 0 off.3 ∙ get_or-set_other s₂ q.2 k v.c 0 off.2
      ∙ get_or-set_other s₁ q.1 k v.b 0 off.1 ∙ get_or-set_other s q.0 k v.a 0 off.0

  set_past : (x : ℕ) → put_words q v (set s k x) ≡ set (put_words q v s) k x
  unfolding put_words
  set_past x =
      let s₁ = set s q.0 v.a in
      let s₂ = set s₁ q.1 v.b in
      let s₃ = set s₂ q.2 v.c in
      ap (λ (t : List ℕ). set (set (set t q.1 v.b) q.2 v.c) q.3 v.d) (set_comm s k q.0 x v.a off.0)
      ∙ ap (λ (t : List ℕ). set (set t q.2 v.c) q.3 v.d) (set_comm s₁ k q.1 x v.b off.1)
      ∙ ap (λ (t : List ℕ). set t q.3 v.d) (set_comm s₂ k q.2 x v.c off.2) ∙ set_comm s₃ k q.3 x v.d off.3

module _ (p q : Quad) (apart : Disjoint p q) where
  words_past : (v : Words) (s : List ℕ) → words_at p (put_words q v s) ≡ words_at p s
  unfolding words_at
  words_past v s i =
      record {
        a = read_past q v s p.0 apart.first i;
        b = read_past q v s p.1 apart.second i;
        c = read_past q v s p.2 apart.third i;
        d = read_past q v s p.3 apart.fourth i;
      }

  put_past : (v w : Words) (s : List ℕ) → put_words q w (put_words p v s) ≡ put_words p v (put_words q w s)
  unfolding put_words
  put_past v w s =
      let s₁ = set s p.0 v.a in
      let s₂ = set s₁ p.1 v.b in
      let s₃ = set s₂ p.2 v.c in
      set_past q w s₃ p.3 apart.fourth v.d
      ∙ ap (λ (t : List ℕ). set t p.3 v.d) (set_past q w s₂ p.2 apart.third v.c
      ∙ ap (λ (t : List ℕ). set t p.2 v.c) (set_past q w s₁ p.1 apart.second v.b
      ∙ ap (λ (t : List ℕ). set t p.1 v.b) (set_past q w s p.0 apart.first v.a)))

not-sym : {x y : ℕ} → x ≢ y → y ≢ x
not-sym n e = n (sym e)

turned_round : (p q : Quad) → Disjoint p q → Disjoint q p
turned_round p q h =
    record {
      first = (not-sym h.first.0, not-sym h.second.0, not-sym h.third.0, not-sym h.fourth.0);
      second = (not-sym h.first.1, not-sym h.second.1, not-sym h.third.1, not-sym h.fourth.1);
      third = (not-sym h.first.2, not-sym h.second.2, not-sym h.third.2, not-sym h.fourth.2);
      fourth = (not-sym h.first.3, not-sym h.second.3, not-sym h.third.3, not-sym h.fourth.3);
    }

module _ (f g : Words → Words) where
  at_past : (p q : Quad) → Disjoint p q → (s : List ℕ) → apply_at f p (apply_at g q s) ≡ apply_at g q (apply_at f p s)
  unfolding apply_at
  at_past p q h s =
      ap (λ (w : Words). put_words p (f w) (put_words q (g (words_at q s)) s)) (words_past p q h (g (words_at q s)) s)
      ∙ sym (put_past p q h (f (words_at p s)) (g (words_at q s)) s)
      ∙ ap (λ (w : Words). put_words q (g w) (put_words p (f (words_at p s)) s)) (sym (words_past q p (turned_round p q h) (f (words_at p s)) s))

  at_at : (q : Quad) → Spread q → (s : List ℕ) → length s ≡ 16 → apply_at g q (apply_at f q s) ≡ apply_at (λ w. g (f w)) q s
  unfolding apply_at
  at_at q h s long =
      let a = h.apart in
      let v = f (words_at q s) in
      ap (λ (w : Words). put_words q (g w) (put_words q v s)) (words_at-put q a.0 a.1 a.2 a.3 a.4 a.5 v s (omega arith) (omega arith) (omega arith) (omega arith))
      ∙ put-put q a.0 a.1 a.2 a.3 a.4 a.5 v s (g v)

length_at : (f : Words → Words) (q : Quad) (s : List ℕ) → length (apply_at f q s) ≡ length s
unfolding apply_at put_words
length_at f q s = simp length-set

length_all : (f : Words → Words) (qs : List Quad) (s : List ℕ) → length (at_all f s qs) ≡ length s
length_all f [] s = refl
length_all f (q ∷ qs) s = length_all f qs (apply_at f q s) ∙ length_at f q s

module _ (f g : Words → Words) where
  at_past_all : (p : Quad) (qs : List Quad) → Each (Disjoint p) qs → (s : List ℕ) → apply_at f p (at_all g s qs) ≡ at_all g (apply_at f p s) qs
  at_past_all p [] h s = refl
  at_past_all p (q ∷ qs) h s =
      at_past_all p qs h.1 (apply_at g q s) ∙ ap (λ (t : List ℕ). at_all g t qs) (at_past f g p q h.0 s)

module _ (f g : Words → Words) where
  all_all : (qs : List Quad) → SideBySide qs → (s : List ℕ) → length s ≡ 16 → at_all g (at_all f s qs) qs ≡ at_all (λ w. g (f w)) s qs
  all_all [] h s long = refl
  all_all (q ∷ qs) h s long =
      ap (λ (t : List ℕ). at_all g t qs) (at_past_all g f q qs h.1 (apply_at f q s) ∙ ap (λ (t : List ℕ). at_all f t qs) (at_at f g q h.0 s long))
      ∙ all_all qs h.2 (apply_at (λ w. g (f w)) q s) (length_at (λ w. g (f w)) q s ∙ long)

-- ---- the columns and the diagonals

columns_apart : SideBySide (take 4 quads)
unfolding quads
columns_apart = (omega arith, (omega arith, (omega arith, (omega arith, tt))), (omega arith, (omega arith, (omega arith, tt)), (omega arith, (omega arith, tt), (omega arith, tt, tt))))

diagonals_apart : SideBySide (take 4 (drop 4 quads))
unfolding quads
diagonals_apart = (omega arith, (omega arith, (omega arith, (omega arith, tt))), (omega arith, (omega arith, (omega arith, tt)), (omega arith, (omega arith, tt), (omega arith, tt, tt))))

columns_spread : Each Spread (take 4 quads)
unfolding quads
columns_spread = omega arith

diagonals_spread : Each Spread (take 4 (drop 4 quads))
unfolding quads
diagonals_spread = omega arith

pub columns_inside : AllInside (take 4 quads)
columns_inside n h = (each_at Spread (take 4 quads) none columns_spread n h).inside

pub diagonals_inside : AllInside (take 4 (drop 4 quads))
diagonals_inside n h = (each_at Spread (take 4 (drop 4 quads)) none diagonals_spread n h).inside

-- the round, half by half
module _ (sum : ℕ → ℕ → ℕ) where
  abbrev first_half : Words → Words
  first_half = half_g sum 32 24

  abbrev second_half : Words → Words
  second_half = half_g sum 16 63

  pub round_by_halves : (s : List ℕ) → length s ≡ 16
      → at_all second_half (at_all first_half (at_all second_half (at_all first_half s (take 4 quads)) (take 4 quads)) (take 4 (drop 4 quads))) (take 4 (drop 4 quads)) ≡ round sum s
  unfolding round quads G
  round_by_halves s long =
      ap (λ (t : List ℕ). at_all second_half (at_all first_half t (take 4 (drop 4 quads))) (take 4 (drop 4 quads))) (all_all first_half second_half (take 4 quads) columns_apart s long)
      ∙ all_all first_half second_half (take 4 (drop 4 quads)) diagonals_apart (at_all (G sum) s (take 4 quads)) (length_all (G sum) (take 4 quads) s ∙ long)
