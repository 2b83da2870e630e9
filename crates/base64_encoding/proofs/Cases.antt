-- The examples of RFC 4648 section 10, without their `=`, each encoded and decoded, and neighbours of theirs that are no texts. Assumes nothing.
use mathlib.Core.Path.{◌≡◌, refl}
use mathlib.Core.Bool.{false}
use mathlib.Core.List.{[], ◌∷◌}
use Rattle.lists.specs.Zip.{tabulate}
use Rattle.base64_letters.specs.Letters.{letter, value_of}
use Rattle.base64_encoding.specs.Base64.{three, sextet, encoded_length, encode, value_at, four, octet, decoded_length, decode, unused, is_text}
use Rattle.lists.specs.Every.{every}

pub none : (encode [] ≡ []) × (decode [] ≡ [])
unfolding encode encoded_length decode decoded_length tabulate
none = (refl, refl)

-- `f` is `Zg`
pub f : (encode (102 ∷ []) ≡ 90 ∷ 103 ∷ []) × (decode (90 ∷ 103 ∷ []) ≡ 102 ∷ [])
unfolding encode encoded_length sextet three letter decode decoded_length octet four value_at value_of tabulate
f = (refl, refl)

-- `fo` is `Zm8`
pub fo : (encode (102 ∷ 111 ∷ []) ≡ 90 ∷ 109 ∷ 56 ∷ []) × (decode (90 ∷ 109 ∷ 56 ∷ []) ≡ 102 ∷ 111 ∷ [])
unfolding encode encoded_length sextet three letter decode decoded_length octet four value_at value_of tabulate
fo = (refl, refl)

-- `foo` is `Zm9v`
pub foo : (encode (102 ∷ 111 ∷ 111 ∷ []) ≡ 90 ∷ 109 ∷ 57 ∷ 118 ∷ []) × (decode (90 ∷ 109 ∷ 57 ∷ 118 ∷ []) ≡ 102 ∷ 111 ∷ 111 ∷ [])
unfolding encode encoded_length sextet three letter decode decoded_length octet four value_at value_of tabulate
foo = (refl, refl)

-- `foob` is `Zm9vYg`
pub foob : (encode (102 ∷ 111 ∷ 111 ∷ 98 ∷ []) ≡ 90 ∷ 109 ∷ 57 ∷ 118 ∷ 89 ∷ 103 ∷ []) × (decode (90 ∷ 109 ∷ 57 ∷ 118 ∷ 89 ∷ 103 ∷ []) ≡ 102 ∷ 111 ∷ 111 ∷ 98 ∷ [])
unfolding encode encoded_length sextet three letter decode decoded_length octet four value_at value_of tabulate
foob = (refl, refl)

-- `fooba` is `Zm9vYmE`
pub fooba : (encode (102 ∷ 111 ∷ 111 ∷ 98 ∷ 97 ∷ []) ≡ 90 ∷ 109 ∷ 57 ∷ 118 ∷ 89 ∷ 109 ∷ 69 ∷ []) × (decode (90 ∷ 109 ∷ 57 ∷ 118 ∷ 89 ∷ 109 ∷ 69 ∷ []) ≡ 102 ∷ 111 ∷ 111 ∷ 98 ∷ 97 ∷ [])
unfolding encode encoded_length sextet three letter decode decoded_length octet four value_at value_of tabulate
fooba = (refl, refl)

-- `foobar` is `Zm9vYmFy`
pub foobar : (encode (102 ∷ 111 ∷ 111 ∷ 98 ∷ 97 ∷ 114 ∷ []) ≡ 90 ∷ 109 ∷ 57 ∷ 118 ∷ 89 ∷ 109 ∷ 70 ∷ 121 ∷ []) × (decode (90 ∷ 109 ∷ 57 ∷ 118 ∷ 89 ∷ 109 ∷ 70 ∷ 121 ∷ []) ≡ 102 ∷ 111 ∷ 111 ∷ 98 ∷ 97 ∷ 114 ∷ [])
unfolding encode encoded_length sextet three letter decode decoded_length octet four value_at value_of tabulate
foobar = (refl, refl)

-- `Zh` and `Zm9` have an unused bit, of `Zm9vY` a letter is left over, and `Zg==` ends with `=`
pub no_texts : (is_text (90 ∷ 104 ∷ []) ≡ false) × (is_text (90 ∷ 109 ∷ 57 ∷ []) ≡ false) × (is_text (90 ∷ 109 ∷ 57 ∷ 118 ∷ 89 ∷ []) ≡ false) × (is_text (90 ∷ 103 ∷ 61 ∷ 61 ∷ []) ≡ false)
unfolding is_text every unused value_at value_of
no_texts = (refl, refl, refl, refl)
