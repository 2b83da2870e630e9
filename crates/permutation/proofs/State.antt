-- States: sixteen words, each below 2^64. Assumes nothing.
use mathlib.Core.Path.{◌≡◌, ◌∙◌}
use Prim.Native.Nat.{ℕ, ◌^◌, ◌<◌}
use mathlib.Core.List.{List}
use lib.ListN.{length, set, length-set}
use Rattle.lists.proofs.Words.{AllWords, set_words}

pub record IsState (s : List ℕ) : Type 0 where
  pub len : length s ≡ 16
  pub word : AllWords s

pub set_state : {s : List ℕ} (k v : ℕ) → IsState s → v < 2 ^ 64 → IsState (set s k v)
set_state {s} k v h hv = record { len = length-set s k v ∙ h.len; word = set_words s k v h.word hv }
