-- Text in a buffer: put into it piece after piece, and found at a place.
use Rattle.std.specs.Prelude.{◌≡◌, ℕ, ◌+◌, ◌≤◌, Bool, List, length, take, drop}
use Rattle.lists.specs.Zip.{zip_at}
use Rattle.lists.specs.Every.{same_bytes}

-- text is put at place `at` of what the buffer held, where there is room for it, and ends at `next`; the rest is kept
pub record Appended (before after : List ℕ) (at : ℕ) (text : List ℕ) (next : ℕ) : Type 0 where
  pub next_is : next ≡ at + length text
  pub fits : next ≤ length before
  pub same_length : length after ≡ length before
  pub put : after ≡ zip_at (λ x y. y) at before text

-- a text stands at a place of a buffer
abbrev pub stands_at : List ℕ → ℕ → List ℕ → Bool
stands_at buffer at text = same_bytes (take (length text) (drop at buffer)) text
