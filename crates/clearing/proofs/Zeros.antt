-- Rounds of zeros give zeros, for every addition that makes zero of zeros. Assumes nothing.
use mathlib.Core.Path.{◌≡◌, refl, ap, ◌∙◌}
use Prim.Native.Nat.{ℕ, zero, suc}
use lib.ListN.{replicate}
use Rattle.mixer.specs.Word.{turn_right}
use Rattle.mixer.specs.G.{G, half_g}
use Rattle.mixer.specs.declared.Words.{Words}
use Rattle.profile.specs.Profile.{state_words, quads}
use Rattle.permutation.specs.Round.{words_at, put_words, apply_at, round, rounds}

module _ (sum : ℕ → ℕ → ℕ) (none : sum 0 0 ≡ 0) where
  abbrev zeros : Words
  zeros = record { a = 0; b = 0; c = 0; d = 0 }

  G_zeros : G sum zeros ≡ zeros
  unfolding G half_g turn_right
  G_zeros = simp none

  pub round_zeros : round sum (replicate state_words 0) ≡ replicate state_words 0
  unfolding round apply_at put_words words_at quads
  round_zeros = simp G_zeros

  pub rounds_zeros : (n : ℕ) → rounds sum n (replicate state_words 0) ≡ replicate state_words 0
  unfolding rounds
  rounds_zeros zero = refl
  rounds_zeros (suc n) = ap (round sum) (rounds_zeros n) ∙ round_zeros
