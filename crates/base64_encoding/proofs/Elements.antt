-- Lengths and elements of what is encoded and decoded, and the digits of a group by their place in it. Assumes nothing.
use mathlib.Core.Path.{◌≡◌, ap, ap₂}
use Prim.Native.Nat.{ℕ, ◌+◌, ◌*◌, ◌-◌, ◌/◌, ◌%◌, ◌^◌, ◌≤◌, ◌<◌}
use native.Mathlib.Decide.{dec_lt}
use native.Mathlib.Omega.{arith}
use mathlib.Core.List.{List}
use lib.ListN.{length, get_or, get_or-eq_default}
use Rattle.lists.proofs.ZipLaws.{length-tabulate, get_or-tabulate}
use Rattle.lists.proofs.Parts.{get_or-inside}
use Rattle.base64_letters.specs.Letters.{letter, value_of}
use Rattle.base64_encoding.specs.Base64.{three, sextet, encoded_length, encode, value_at, four, octet, decoded_length, decode}

-- ---- lengths

pub length-encode : (l : List ℕ) → length (encode l) ≡ encoded_length (length l)
unfolding encode
length-encode l = length-tabulate _ _

pub length-decode : (t : List ℕ) → length (decode t) ≡ decoded_length (length t)
unfolding decode
length-decode t = length-tabulate _ _

-- ---- elements

pub get_or-encode : (l : List ℕ) (i : ℕ) → i < encoded_length (length l) → get_or (encode l) i 0 ≡ letter (sextet l i)
unfolding encode
get_or-encode l i h = get_or-tabulate _ (λ i. letter (sextet l i)) i h

pub get_or-decode : (t : List ℕ) (j : ℕ) → j < decoded_length (length t) → get_or (decode t) j 0 ≡ octet t j
unfolding decode
get_or-decode t j h = get_or-tabulate _ (octet t) j h

pub past_byte : (l : List ℕ) (j : ℕ) → length l ≤ j → get_or l j 0 ≡ 0
past_byte l j h = get_or-eq_default l 0 h

pub value_inside : (t : List ℕ) (i : ℕ) → i < length t → value_at t i ≡ value_of (get_or t i 0)
unfolding value_at
value_inside t i h = ap value_of (get_or-inside t i 65 0 h)

pub past_value : (t : List ℕ) (i : ℕ) → length t ≤ i → value_at t i ≡ 0
unfolding value_at value_of
past_value t i h = ap value_of (get_or-eq_default t 65 h)

-- ---- digits

pub sextet_small : (l : List ℕ) (i : ℕ) → sextet l i < 64
unfolding sextet
sextet_small l i = omega arith

-- what is decoded is bytes, whatever the text
pub decode_bytes : (t : List ℕ) (i : ℕ) → get_or (decode t) i 0 < 256
unfolding octet
decode_bytes t i =
    elim (dec_lt i (decoded_length (length t))) [
      | yes inside ↦ rw (get_or-decode t i inside) (omega arith)
      | no past ↦ rw (past_byte (decode t) i (omega (arith, length-decode t))) (omega arith)
    ]

pub sextet_at : (l : List ℕ) (g k : ℕ) {i : ℕ} → k < 4 → i ≡ 4 * g + k → sextet l i ≡ three l g / 64 ^ (3 - k) % 64
unfolding sextet
sextet_at l g k h e = ap₂ (λ (q r : ℕ). three l q / 64 ^ (3 - r) % 64) (omega arith) (omega arith)

pub octet_at : (t : List ℕ) (g k : ℕ) {j : ℕ} → k < 3 → j ≡ 3 * g + k → octet t j ≡ four t g / 256 ^ (2 - k) % 256
unfolding octet
octet_at t g k h e = ap₂ (λ (q r : ℕ). four t q / 256 ^ (2 - r) % 256) (omega arith) (omega arith)
