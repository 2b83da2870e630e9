-- What the code of the lanes asks for.
use Rattle.std.specs.Prelude.{◌≡◌, ℕ, ◌*◌, ◌%◌, ◌≤◌, ◌<◌, List, get_or}
use Rattle.profile.specs.Profile.{cell_words}

-- p lanes with n rows of C columns each lie in a matrix of so many words
pub record Room (C p n words : ℕ) : Type 0 where
  pub lanes_pos : 1 ≤ p
  pub rows_least : 4 ≤ n
  pub rows_even : n % 2 ≡ 0
  pub rows_most : p * n ≤ 16384
  pub columns_pos : 1 ≤ C
  pub columns_most : C ≤ 256
  pub room : cell_words * (p * n * C) ≤ words

-- every number of a list is below R
abbrev pub Below : ℕ → List ℕ → Type 0
Below R xs = (i : ℕ) → get_or xs i 0 < R
