-- The key of several lanes: the keys that their states give, XORed.
use Rattle.std.specs.Prelude.{ℕ, List, [], get_or, replicate}
use Rattle.lists.specs.Loop.{loop}
use Rattle.lists.specs.Zip.{xor_into}
use Rattle.key.specs.Key.{key_bytes}

-- a key of n bytes arrives from lane i
unfoldable pub arrives : (ℕ → ℕ → ℕ) → ℕ → List (List ℕ) → ℕ → List ℕ → List ℕ
arrives sum n states i key = xor_into key (key_bytes sum n (get_or states i []))

-- those of p lanes, from lane 0 on
unfoldable pub keys_xored : (ℕ → ℕ → ℕ) → ℕ → ℕ → List (List ℕ) → List ℕ
keys_xored sum p n states = loop (arrives sum n states) p (replicate n 0)
