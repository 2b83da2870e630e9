-- Absorbing and duplexing.
use Rattle.std.specs.Prelude.{ℕ, List}
use Rattle.permutation.specs.Round.{rounds, unrounds}
use Rattle.lists.specs.Zip.{xor_into}
unfoldable pub use Rattle.rate.specs.Rate.{rand}
unfoldable pub use Rattle.cell_sums.specs.CellSum.{cell_sum}

-- words XORed into the first words of the state, then a call of n rounds
unfoldable pub absorb : (ℕ → ℕ → ℕ) → ℕ → List ℕ → List ℕ → List ℕ
absorb sum n words s = rounds sum n (xor_into s words)

-- the state before words were absorbed with a call of n rounds
unfoldable pub unabsorb : (ℕ → ℕ → ℕ) → ℕ → List ℕ → List ℕ → List ℕ
unabsorb back n words s = xor_into (unrounds back n s) words
