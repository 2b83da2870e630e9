-- Words of 64 bits, held as numbers, and additions of words with what undoes them.
use Rattle.std.specs.Prelude.{◌≡◌, ℕ, ◌+◌, ◌-◌, ◌*◌, ◌/◌, ◌%◌, ◌^◌, ◌<◌}

-- the sum of two words, its carry out of bit 63 dropped
abbrev pub plain_sum : ℕ → ℕ → ℕ
plain_sum a b = (a + b) % 2 ^ 64

-- the difference of two words, modulo 2^64
abbrev pub difference : ℕ → ℕ → ℕ
difference a b = (a + (2 ^ 64 - b)) % 2 ^ 64

-- a word turned right by n bits: its n low bits become its high ones
unfoldable pub turn_right : ℕ → ℕ → ℕ
turn_right n x = x % 2 ^ n * 2 ^ (64 - n) + x / 2 ^ n

-- an addition of words, and the difference that is to undo it where the second operand is known
pub record Addition : Type 0 where
  pub sum : ℕ → ℕ → ℕ
  pub back : ℕ → ℕ → ℕ

-- words go to words, and the difference does undo the sum
pub record Undoes (A : Addition) : Type 0 where
  pub sum_word : (a b : ℕ) → a < 2 ^ 64 → b < 2 ^ 64 → A.sum a b < 2 ^ 64
  pub back_word : (a b : ℕ) → a < 2 ^ 64 → b < 2 ^ 64 → A.back a b < 2 ^ 64
  pub sum_back : (a b : ℕ) → a < 2 ^ 64 → b < 2 ^ 64 → A.back (A.sum a b) b ≡ a

abbrev pub plain : Addition
plain = record { sum = plain_sum; back = difference }
