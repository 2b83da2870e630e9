-- The words of the output. Assumes nothing.
use mathlib.Core.Path.{◌≡◌}
use Prim.Native.Nat.{ℕ, ◌<◌}
use mathlib.Core.List.{List}
use lib.ListN.{length, get_or}
use Rattle.lists.proofs.Words.{AllWords}
use Rattle.lists.proofs.ZipLaws.{length-tabulate, get_or-tabulate, tabulate-words}
use Rattle.rate.specs.Rate.{rand}

pub length-rand : (s : List ℕ) → length (rand s) ≡ 12
unfolding rand
length-rand s = length-tabulate 12 (λ i. get_or s i 0)

pub get_or-rand : (s : List ℕ) (j : ℕ) → j < 12 → get_or (rand s) j 0 ≡ get_or s j 0
unfolding rand
get_or-rand s j h = get_or-tabulate 12 (λ i. get_or s i 0) j h

pub rand-words : (s : List ℕ) → AllWords s → AllWords (rand s)
unfolding rand
rand-words s h = tabulate-words 12 (λ i. get_or s i 0) h
