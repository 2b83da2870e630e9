-- A function at a quad, and loops over quads. Assumes nothing.
use mathlib.Core.Path.{◌≡◌, refl, sym, ap, ◌∙◌}
use Prim.Native.Nat.{ℕ, ◌+◌, ◌≤◌, ◌<◌}
use native.Mathlib.Numerals.{add-one}
use mathlib.Core.List.{List, [], ◌∷◌, ◌++◌}
use lib.ListN.{length, get_or, take}
use lib.Seq.{take_all, take-suc}
use Rattle.mixer.specs.declared.Words.{Words}
use Rattle.profile.specs.declared.Quad.{Quad}
use Rattle.profile.specs.Profile.{quads}
use Rattle.permutation.specs.Round.{none, words_at, put_words, apply_at, at_all, AllInside}
use Rattle.permutation.proofs.Quads.{Spread, each_at, quads_spread}

-- a function of the words at a quad, whose result is put there
pub applied : (f : Words → Words) (q : Quad) (s : List ℕ) {w : Words} {t : List ℕ} → w ≡ f (words_at q s) → t ≡ put_words q w s → t ≡ apply_at f q s
unfolding apply_at
applied f q s made put = put ∙ ap (λ (w : Words). put_words q w s) made

-- a function at every quad of two lists
at_both : (f : Words → Words) (ps qs : List Quad) (s : List ℕ) → at_all f s (ps ++ qs) ≡ at_all f (at_all f s ps) qs
at_both f [] qs s = refl
at_both f (p ∷ ps) qs s = at_both f ps qs (apply_at f p s)

-- a loop over quads, after n of them
pub record Along (f : Words → Words) (qs : List Quad) (s₀ : List ℕ) (n : ℕ) (s : List ℕ) : Type 0 where
  so_far : s ≡ at_all f s₀ (take n qs)

module _ (f : Words → Words) {qs : List Quad} {s₀ : List ℕ} where
  pub along_none : Along f qs s₀ 0 s₀
  along_none = record { so_far = refl }

  module _ {n : ℕ} {s : List ℕ} (m : Along f qs s₀ n s) where
    pub along_again : {t : List ℕ} → n < length qs → t ≡ apply_at f (get_or qs n none) s → Along f qs s₀ (n + 1) t
    along_again h e =
        record {
          so_far =
              rw (add-one, take-suc qs n none h)
              (e ∙ ap (apply_at f (get_or qs n none)) m.so_far ∙ sym (at_both f (take n qs) (get_or qs n none ∷ []) s₀));
        }

    pub along_end : length qs ≤ n → s ≡ at_all f s₀ qs
    along_end h = m.so_far ∙ ap (at_all f s₀) (take_all n qs h)

pub quads_inside : AllInside quads
unfolding quads
quads_inside n h = (each_at Spread quads none quads_spread n h).inside
