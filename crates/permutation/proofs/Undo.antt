-- The round and n rounds keep states and are undone by their inverses, for every addition that can be undone. Assumes nothing.
use mathlib.Core.Path.{◌≡◌, refl, sym, ap, ◌∙◌}
use mathlib.Core.Logic.{◌≢◌}
use Prim.Native.Nat.{ℕ, zero, suc, ◌<◌}
use native.Mathlib.Omega.{arith}
use mathlib.Core.List.{List, [], ◌∷◌, foldl, foldr}
use lib.ListN.{length}
use lib.Seq.{lt-length-set, get_or-set_same, get_or-set_other, set-get_or, set-set, set_comm}
use Rattle.mixer.specs.declared.Words.{Words}
use Rattle.mixer.specs.Word.{Addition, Undoes}
use Rattle.mixer.specs.G.{G, un_g}
use Rattle.mixer.proofs.GLaws.{FourWords, G-words, G_undo}
use Rattle.profile.specs.declared.Quad.{Quad}
use Rattle.profile.specs.Profile.{quads}
use Rattle.lists.proofs.Words.{AllWords}
use Rattle.permutation.specs.Round.{words_at, put_words, apply_at, round, rounds, unround, unrounds}
use Rattle.permutation.proofs.State.{IsState, set_state}
use Rattle.permutation.proofs.Quads.{Spread, Each, quads_spread}

-- ---- G at four distinct positions

words_at-words : (q : Quad) (s : List ℕ) → AllWords s → FourWords (words_at q s)
unfolding words_at
words_at-words q s h = record { a = h q.0; b = h q.1; c = h q.2; d = h q.3 }

put_words_state : (q : Quad) (w : Words) {s : List ℕ} → FourWords w → IsState s → IsState (put_words q w s)
unfolding put_words
put_words_state q w hw hs =
    set_state q.3 w.d (set_state q.2 w.c (set_state q.1 w.b (set_state q.0 w.a hs hw.a) hw.b) hw.c) hw.d

module _ (q : Quad) (ij : q.0 ≢ q.1) (ik : q.0 ≢ q.2) (il : q.0 ≢ q.3) (jk : q.1 ≢ q.2) (jl : q.1 ≢ q.3) (kl : q.2 ≢ q.3)
    (w : Words) (s : List ℕ) where
  -- what was put is read back
  pub words_at-put : q.0 < length s → q.1 < length s → q.2 < length s → q.3 < length s → words_at q (put_words q w s) ≡ w
  unfolding words_at put_words
  words_at-put hi hj hk hl = simp (get_or-set_other, get_or-set_same, lt-length-set)

  -- a second put covers the first: each of its stores moves inward to the store that it covers
  pub put-put : (v : Words) → put_words q v (put_words q w s) ≡ put_words q v s
  unfolding put_words
  put-put v =
      let i = q.0 in let j = q.1 in let k = q.2 in let l = q.3 in
      rw (set_comm _ l i _ _ (λ e. il (sym e)), set_comm _ k i _ _ (λ e. ik (sym e)), set_comm _ j i _ _ (λ e. ij (sym e)), set-set _ i)
      (rw (set_comm _ l j _ _ (λ e. jl (sym e)), set_comm _ k j _ _ (λ e. jk (sym e)), set-set _ j)
      (rw (set_comm _ l k _ _ (λ e. kl (sym e)), set-set _ k, set-set _ l)))

put-words_at : (q : Quad) (s : List ℕ) → put_words q (words_at q s) s ≡ s
unfolding words_at put_words
put-words_at q s = simp (set-get_or)

-- ---- the round and n rounds
module _ {A : Addition} (u : Undoes A) where
  at_state : (q : Quad) {s : List ℕ} → IsState s → IsState (apply_at (G A.sum) q s)
  unfolding apply_at
  at_state q {s} hs = put_words_state q _ (G-words u (words_at q s) (words_at-words q s hs.word)) hs

  at_undo : (q : Quad) → Spread q → (s : List ℕ) → IsState s → apply_at (un_g A.back) q (apply_at (G A.sum) q s) ≡ s
  unfolding apply_at
  at_undo q h s hs =
      let w = G A.sum (words_at q s) in
      let a = h.apart in
      ap (λ (v : Words). put_words q v (put_words q w s))
      (ap (un_g A.back) (words_at-put q a.0 a.1 a.2 a.3 a.4 a.5 w s (omega arith) (omega arith) (omega arith) (omega arith))
      ∙ G_undo u (words_at q s) (words_at-words q s hs.word))
      ∙ put-put q a.0 a.1 a.2 a.3 a.4 a.5 w s (words_at q s) ∙ put-words_at q s

  all_state : (qs : List Quad) {s : List ℕ} → IsState s → IsState (foldl (λ t q. apply_at (G A.sum) q t) s qs)
  all_state [] hs = hs
  all_state (q ∷ qs) hs = all_state qs (at_state q hs)

  all_undo : (qs : List Quad) → Each Spread qs → (s : List ℕ) → IsState s → foldr (apply_at (un_g A.back)) (foldl (λ t q. apply_at (G A.sum) q t) s qs) qs ≡ s
  all_undo [] h s hs = refl
  all_undo (q ∷ qs) h s hs =
      ap (apply_at (un_g A.back) q) (all_undo qs h.1 (apply_at (G A.sum) q s) (at_state q hs)) ∙ at_undo q h.0 s hs

  pub round_state : {s : List ℕ} → IsState s → IsState (round A.sum s)
  unfolding round
  round_state = all_state quads

  pub round_undo : (s : List ℕ) → IsState s → unround A.back (round A.sum s) ≡ s
  unfolding round unround
  round_undo = all_undo quads quads_spread

  pub rounds_state : (n : ℕ) {s : List ℕ} → IsState s → IsState (rounds A.sum n s)
  unfolding rounds
  rounds_state zero hs = hs
  rounds_state (suc n) hs = round_state (rounds_state n hs)

  pub rounds_undo : (n : ℕ) (s : List ℕ) → IsState s → unrounds A.back n (rounds A.sum n s) ≡ s
  unfolding rounds unrounds
  rounds_undo zero s hs = refl
  rounds_undo (suc n) s hs =
      ap (unrounds A.back n) (round_undo (rounds A.sum n s) (rounds_state n hs)) ∙ rounds_undo n s hs

  -- what is undone is injective
  pub rounds_inj : (n : ℕ) (s t : List ℕ) → IsState s → IsState t → rounds A.sum n s ≡ rounds A.sum n t → s ≡ t
  rounds_inj n s t hs ht e = sym (rounds_undo n s hs) ∙ ap (unrounds A.back n) e ∙ rounds_undo n t ht
