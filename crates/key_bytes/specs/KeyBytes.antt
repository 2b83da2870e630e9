-- The key that a state gives.
use Rattle.std.specs.Prelude.{ℕ, zero, suc, ◌+◌, ◌-◌, ◌*◌, ◌/◌, ◌%◌, List, get_or}
use Rattle.lists.specs.Zip.{tabulate}
use Rattle.little_endian.specs.Bytes.{le_each}
use Rattle.permutation.specs.Round.{rounds}
use Rattle.profile.specs.Profile.{full_rounds, cell_words}
use Rattle.sponge.specs.Sponge.{rand}

-- the bytes of words 0 to 11
abbrev pub piece_bytes : ℕ
piece_bytes = 8 * cell_words

-- k full calls
unfoldable pub full_calls : (ℕ → ℕ → ℕ) → ℕ → List ℕ → List ℕ
full_calls sum zero s = s
full_calls sum (suc k) s = rounds sum full_rounds (full_calls sum k s)

-- the output of a state as bytes: a piece of the key
unfoldable pub piece : List ℕ → List ℕ
piece s = le_each 8 (rand s)

-- a key of n bytes, taken piece by piece with one full call between two of them: the last piece is cut short
unfoldable pub key_bytes : (ℕ → ℕ → ℕ) → ℕ → List ℕ → List ℕ
key_bytes sum n s = tabulate n (λ i. get_or (piece (full_calls sum (i / piece_bytes) s)) (i % piece_bytes) 0)

-- how many pieces n bytes take: n divided by 96, rounded up
unfoldable pub pieces : ℕ → ℕ
pieces n = (n + (piece_bytes - 1)) / piece_bytes

-- the full calls between the pieces of n bytes: none before the first and none after the last
abbrev pub calls_between : ℕ → ℕ
calls_between n = pieces n - 1

-- the full calls, one or none, after i bytes and before the next
abbrev pub calls_before : ℕ → ℕ
calls_before i = calls_between (i + 1) - calls_between i

-- the state that n bytes of the key leave
unfoldable pub squeezed : (ℕ → ℕ → ℕ) → ℕ → List ℕ → List ℕ
squeezed sum n s = full_calls sum (calls_between n) s
