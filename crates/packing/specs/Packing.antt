-- Two numbers in one word of the visit record (request 108).
use Rattle.std.specs.Prelude.{ℕ, ◌+◌, ◌*◌, ◌/◌, ◌%◌}

-- what the second is multiplied by; rows and columns have to be below it
abbrev pub pair_factor : ℕ
pair_factor = 65536

-- the first in bits 0 to 15, the second in the bits above them
abbrev pub packed : ℕ → ℕ → ℕ
packed low high = low + pair_factor * high

-- the two numbers of any word; the second is not cut, so that no bit of a word is overlooked
abbrev pub low_of : ℕ → ℕ
low_of word = word % pair_factor

abbrev pub high_of : ℕ → ℕ
high_of word = word / pair_factor
