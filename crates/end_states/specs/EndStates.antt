-- What demand 3 compares, and which pairs of inputs it speaks of.
use Rattle.std.specs.Prelude.{◌≡◌, ◌≢◌, ℕ, ◌/◌, ◌<◌, List, length, take}
use Rattle.settings.specs.Settings.{Settings}
use Rattle.settings.specs.Sizes.{matrix_words}
use Rattle.padded_input.specs.Padded.{block_bytes}
use Rattle.input.specs.Input.{Input, padded_input, block}
use Rattle.derivation.specs.Derivation.{end_state, end_matrix, end_record}

-- the state after the last visit, the used matrix and the used record
pub record End : Type 0 where
  pub state : List ℕ
  pub matrix : List ℕ
  pub visited : List ℕ

-- those of a derivation, for an input and what the matrix held before
unfoldable pub end_of : Settings → Input → List ℕ → End
end_of S x m = record { state = end_state S x m; matrix = take (matrix_words S) (end_matrix S x m); visited = end_record S x m }

pub record EndAlike (a b : End) : Type 0 where
  pub states : a.state ≡ b.state
  pub matrices : a.matrix ≡ b.matrix
  pub records : a.visited ≡ b.visited

pub record StartAlike (x y : Input) : Type 0 where
  pub passwords : x.password ≡ y.password
  pub salts : x.salt ≡ y.salt
  pub key_lengths : x.key_length ≡ y.key_length

-- how many 64-byte blocks bytes have
abbrev pub blocks_of : List ℕ → ℕ
blocks_of bytes = length bytes / block_bytes

-- equally many blocks, of which at most one differs: every block but block b is the same in both padded inputs
pub record AtMostOneDiffers (S : Settings) (b : ℕ) (x y : Input) : Type 0 where
  pub as_many : blocks_of (padded_input S x) ≡ blocks_of (padded_input S y)
  pub others : (i : ℕ) → i < blocks_of (padded_input S x) → i ≢ b → block (padded_input S x) i ≡ block (padded_input S y) i
