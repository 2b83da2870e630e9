-- Absorbing and duplexing keep states, are undone where the absorbed words are known, and tell the absorbed words where the
-- state before them is known. Assumes nothing.
use mathlib.Core.Path.{◌≡◌, refl, sym, ap, ap₂, ◌∙◌}
use Prim.Native.Nat.{ℕ, ◌≤◌}
use native.Mathlib.Omega.{arith}
use mathlib.Core.List.{List}
use lib.ListN.{length, take}
use lib.Bits.{bit_xor}
use Rattle.lists.specs.Zip.{xor_into}
use Rattle.lists.proofs.Words.{AllWords, each_words}
use Rattle.lists.proofs.ZipLaws.{length_zip, zip_undo, zip_told, xor_words_lem}
use Rattle.mixer.specs.Word.{Addition, Undoes}
use Rattle.mixer.proofs.WordLaws.{xor_undo, xor_undo_left}
use Rattle.permutation.proofs.State.{IsState}
use Rattle.permutation.proofs.Undo.{rounds_state, rounds_undo, rounds_inj}
use Rattle.profile.specs.Profile.{start, starting_words}
use Rattle.sponge.specs.Sponge.{absorb, unabsorb}

pub start_state : IsState start
unfolding start starting_words
start_state = record { len = refl; word = each_words start (omega arith) }

xor_state : {s : List ℕ} (words : List ℕ) → AllWords words → IsState s → IsState (xor_into s words)
xor_state {s} words hw hs =
    record { len = length_zip bit_xor s words ∙ hs.len; word = xor_words_lem s words hs.word hw }

module _ {A : Addition} (u : Undoes A) (n : ℕ) where
  pub absorb_state : {s : List ℕ} (words : List ℕ) → AllWords words → IsState s → IsState (absorb A.sum n words s)
  unfolding absorb
  absorb_state words hw hs = rounds_state u n (xor_state words hw hs)

  pub absorb_undo : (words s : List ℕ) → AllWords words → IsState s → unabsorb A.back n words (absorb A.sum n words s) ≡ s
  unfolding absorb unabsorb
  absorb_undo words s hw hs =
      ap (λ (t : List ℕ). xor_into t words) (rounds_undo u n (xor_into s words) (xor_state words hw hs))
      ∙ zip_undo bit_xor bit_xor xor_undo s words

  -- what is undone is injective
  pub absorb_inj : (words s t : List ℕ) → AllWords words → IsState s → IsState t → absorb A.sum n words s ≡ absorb A.sum n words t → s ≡ t
  absorb_inj words s t hw hs ht e =
      sym (absorb_undo words s hw hs) ∙ ap (unabsorb A.back n words) e ∙ absorb_undo words t hw ht

  pub absorbed_words : (s vs ws : List ℕ) → AllWords vs → AllWords ws → IsState s → length vs ≤ 16 → length vs ≡ length ws
      → absorb A.sum n vs s ≡ absorb A.sum n ws s → vs ≡ ws
  unfolding absorb
  absorbed_words s vs ws hv hw hs l e p =
      let xored = rounds_inj u n (xor_into s vs) (xor_into s ws) (xor_state vs hv hs) (xor_state ws hw hs) p in
      sym (zip_told bit_xor bit_xor xor_undo_left s vs (omega (arith, hs.len)))
      ∙ ap₂ (λ (k : ℕ) (t : List ℕ). take k (xor_into s t)) e xored ∙ zip_told bit_xor bit_xor xor_undo_left s ws (omega (arith, hs.len))
