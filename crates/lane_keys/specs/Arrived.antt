-- What a byte of each lane's key leaves, and what the whole key does.
use Rattle.std.specs.Prelude.{◌≡◌, ℕ, ◌*◌, ◌%◌, ◌<◌, List, [], length, get_or}
use Rattle.std.specs.Int.Bits.{bit_xor}
use Rattle.lists.specs.Loop.{loop}
use Rattle.lists.specs.Zip.{put_into}
use Rattle.key.specs.Key.{full_calls, piece, piece_bytes, calls_before, calls_between, same_bytes}
use Rattle.key.specs.declared.Comparison.{Comparison}
use Rattle.key_bytes.specs.declared.Next.{Next}
use Rattle.lane_keys.specs.LaneKeys.{keys_xored}

-- numbers XORed, from number 0 on
abbrev pub xored : (ℕ → ℕ) → ℕ → ℕ
xored f p = loop (λ i b. bit_xor b (f i)) p 0

-- byte i of p lanes, with the states before it and after it
pub record Arrived (sum : ℕ → ℕ → ℕ) (p i : ℕ) (states states' : List (List ℕ)) (r : Next) : Type 0 where
  pub as_many : length states' ≡ length states
  pub called : (j : ℕ) → j < p → get_or states' j [] ≡ full_calls sum (calls_before i) (get_or states j [])
  pub byte : r.byte ≡ xored (λ j. get_or (piece (full_calls sum (calls_before i) (get_or states j []))) (i % piece_bytes) 0) p
  pub calls : r.calls ≡ p * calls_before i

-- a key of n bytes of p lanes: in the lent key, and compared with a stored one that is as long
pub record Taken (sum : ℕ → ℕ → ℕ) (p n : ℕ) (states : List (List ℕ)) (key stored key' : List ℕ) (r : Comparison) : Type 0 where
  pub key_is : key' ≡ put_into key (keys_xored sum p n states)
  pub same_is : length stored ≡ n → r.same ≡ same_bytes stored (keys_xored sum p n states)
  pub calls : r.calls ≡ p * calls_between n
