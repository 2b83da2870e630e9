-- Which rows steps of Setup may touch.
use Rattle.std.specs.Prelude.{◌≡◌, ◌⊎◌, ℕ, ◌+◌, ◌*◌, ◌^◌, ◌≤◌}
use Rattle.profile.specs.Profile.{cell_words}

-- so many rows from row `own` on, and from row `other` on, lie in a matrix of so many words; they are the same rows, or none of them is
pub record Reach (C own other rows words : ℕ) : Type 0 where
  pub own_fits : own + rows ≤ 2 ^ 32
  pub other_fits : other + rows ≤ 2 ^ 32
  pub own_room : cell_words * ((own + rows) * C) ≤ words
  pub other_room : cell_words * ((other + rows) * C) ≤ words
  pub apart : (own ≡ other) ⊎ ((own + rows ≤ other) ⊎ (other + rows ≤ own))
