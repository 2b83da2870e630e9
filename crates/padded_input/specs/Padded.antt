-- The padded input, for any list of numbers.
use Rattle.std.specs.Prelude.{ℕ, suc, ◌+◌, ◌-◌, ◌*◌, ◌/◌, ◌%◌, ◌^◌, ◌<◌, cond, List, ◌++◌, eqb, length}
use Rattle.lists.specs.Zip.{tabulate}
use Rattle.little_endian.specs.Bytes.{le_each}
use Rattle.profile.specs.Profile.{block_words}

abbrev pub block_bytes : ℕ
block_bytes = 8 * block_words

abbrev pub number_bytes : ℕ
number_bytes = 4

unfoldable pub unpadded : List ℕ → List ℕ → List ℕ → List ℕ
unpadded password salt ns = password ++ (salt ++ le_each number_bytes ns)

-- n bytes of which the first bit and the last are 1; a single byte has both
unfoldable pub padding : ℕ → List ℕ
padding n = tabulate n (λ i. cond (eqb i 0) 0x80 0 + cond (eqb (suc i) n) 0x01 0)

-- how many bytes are padded after n: at least one, up to a multiple of a block
abbrev pub missing : ℕ → ℕ
missing n = block_bytes - n % block_bytes

-- the input with its padding, which document 01 names the padded input
unfoldable pub padded : List ℕ → List ℕ → List ℕ → List ℕ
padded password salt ns = unpadded password salt ns ++ padding (missing (length (unpadded password salt ns)))

-- how many blocks the padded input has, from the two lengths and the count of the numbers
unfoldable pub blocks : ℕ → ℕ → ℕ → ℕ
blocks password_length salt_length count = (password_length + salt_length + number_bytes * count) / block_bytes + 1

-- an input whose lengths are four-byte numbers, as that of every accepted call
abbrev pub Short : ℕ → ℕ → ℕ → Type 0
Short password_length salt_length count = password_length + salt_length + number_bytes * count < 2 ^ 32
