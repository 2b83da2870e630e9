-- Numbers stored as bytes, the lowest byte first.
use Rattle.std.specs.Prelude.{ℕ, zero, suc, ◌+◌, ◌*◌, ◌/◌, ◌%◌, List, [], ◌∷◌, ◌++◌, take, drop}
use Rattle.lists.specs.Zip.{tabulate}

-- the number that bytes stand for
unfoldable pub le_value : List ℕ → ℕ
le_value [] = 0
le_value (b ∷ bs) = le_value bs * 256 + b

-- the n low bytes of a number
unfoldable pub le_bytes : ℕ → ℕ → List ℕ
le_bytes zero x = []
le_bytes (suc n) x = x % 256 ∷ le_bytes n (x / 256)

-- the numbers of a list, n bytes each
unfoldable pub le_each : ℕ → List ℕ → List ℕ
le_each n [] = []
le_each n (x ∷ xs) = le_bytes n x ++ le_each n xs

-- the first n words of a list of bytes
unfoldable pub le_words : ℕ → List ℕ → List ℕ
le_words n bytes = tabulate n (λ i. le_value (take 8 (drop (8 * i) bytes)))
