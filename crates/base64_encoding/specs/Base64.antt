-- Base 64 of RFC 4648 section 4, without `=` at the end. Three bytes are four letters. Everything is told place by place: past its end a list
-- reads as 0, and a text as the letter A, whose value is 0.
use Rattle.std.specs.Prelude.{ℕ, ◌+◌, ◌-◌, ◌*◌, ◌/◌, ◌%◌, ◌^◌, Bool, cond, not, ◌&&◌, List, ltb, eqb, length, get_or}
use Rattle.lists.specs.Zip.{tabulate}
use Rattle.lists.specs.Every.{every}
use Rattle.base64_letters.specs.Letters.{letter, value_of}

-- ---- bytes to text

-- the bytes of group g as one number of 24 bits, the first byte highest
unfoldable pub three : List ℕ → ℕ → ℕ
three l g = (get_or l (3 * g) 0 * 256 + get_or l (3 * g + 1) 0) * 256 + get_or l (3 * g + 2) 0

-- the six bits that letter i stands for
unfoldable pub sextet : List ℕ → ℕ → ℕ
sextet l i = three l (i / 4) / 64 ^ (3 - i % 4) % 64

-- as many letters as n bytes need
unfoldable pub encoded_length : ℕ → ℕ
encoded_length n = (4 * n + 2) / 3

-- the text of bytes
unfoldable pub encode : List ℕ → List ℕ
encode l = tabulate (encoded_length (length l)) (λ i. letter (sextet l i))

-- ---- text to bytes

-- the value of the letter at a place
unfoldable pub value_at : List ℕ → ℕ → ℕ
value_at t i = value_of (get_or t i 65)

-- the values of the letters of group g as one number of 24 bits, the first letter highest
unfoldable pub four : List ℕ → ℕ → ℕ
four t g = ((value_at t (4 * g) * 64 + value_at t (4 * g + 1)) * 64 + value_at t (4 * g + 2)) * 64 + value_at t (4 * g + 3)

-- the eight bits of byte j
unfoldable pub octet : List ℕ → ℕ → ℕ
octet t j = four t (j / 3) / 256 ^ (2 - j % 3) % 256

-- as many whole bytes as n letters hold
unfoldable pub decoded_length : ℕ → ℕ
decoded_length n = 3 * n / 4

-- the bytes of a text
unfoldable pub decode : List ℕ → List ℕ
decode t = tabulate (decoded_length (length t)) (octet t)

-- ---- which texts are base 64

-- by what the value of the last of n letters has to be divisible, so that the bits that no byte takes are zero
unfoldable pub unused : ℕ → ℕ
unused n = cond (eqb (n % 4) 2) 16 (cond (eqb (n % 4) 3) 4 1)

-- every byte is a letter
abbrev pub is_letter : ℕ → Bool
is_letter b = ltb (value_of b) 64

abbrev pub all_letters : List ℕ → Bool
all_letters = every is_letter

-- a text of base 64: all are letters, none of them is left over, and the unused bits are zero
unfoldable pub is_text : List ℕ → Bool
is_text t = all_letters t && not (eqb (length t % 4) 1) && eqb (value_at t (length t - 1) % unused (length t)) 0
