-- Worked lines: one that is written and read, outputs that are one byte short, and lines that are refused. Assumes nothing.
use mathlib.Core.Path.{◌≡◌, refl}
use Prim.Native.Nat.{ℕ}
use mathlib.Core.List.{List, [], ◌∷◌}
use Rattle.lists.specs.Zip.{tabulate}
use Rattle.lists.specs.Every.{every, same_bytes}
use Rattle.refusals.specs.Checks.{first, stored_checks}
use Rattle.decimal.specs.Decimal.{decimal_up_to, is_number, number_from}
use Rattle.base64_letters.specs.Letters.{letter, value_of}
use Rattle.base64_encoding.specs.Base64.{three, sextet, encoded_length, encode, value_at, four, octet, decoded_length, decode, unused, is_text}
use Rattle.line_form.specs.Line.{Values, joined, line_of, until, end_at, is_marked, is_line, values_of}
use Rattle.line_form.specs.Promises.{read_checks, write_checks}

-- T 1, R 3, C 1, the salt `saltsalt` and the key of bytes 0 to 3
abbrev values : Values
values =
    record {
      parameters = record { time = 1; rows = 3; columns = 1 };
      salt = 115 ∷ 97 ∷ 108 ∷ 116 ∷ 115 ∷ 97 ∷ 108 ∷ 116 ∷ [];
      key = 0 ∷ 1 ∷ 2 ∷ 3 ∷ [];
    }

-- `$lyra2$t=1,r=3,c=1$c2FsdHNhbHQ$AAECAw`
abbrev line : List ℕ
line = 36 ∷ 108 ∷ 121 ∷ 114 ∷ 97 ∷ 50 ∷ 36 ∷ 116 ∷ 61 ∷ 49 ∷ 44 ∷ 114 ∷ 61 ∷ 51 ∷ 44 ∷ 99 ∷ 61 ∷ 49 ∷ 36 ∷ 99 ∷ 50 ∷ 70 ∷ 115 ∷ 100 ∷ 72 ∷ 78 ∷ 104 ∷ 98 ∷ 72 ∷ 81 ∷ 36 ∷ 65 ∷ 65 ∷ 69 ∷ 67 ∷ 65 ∷ 119 ∷ []

pub line_written : line_of values ≡ line
unfolding joined line_of decimal_up_to encode encoded_length sextet three letter tabulate
line_written = refl

pub line_read : values_of line ≡ values
unfolding until end_at values_of number_from decode decoded_length octet four value_at value_of tabulate
line_read = refl

-- just enough room, and one byte too little
pub room_for_both : (first (read_checks line 8 4) ≡ 0) × (first (read_checks line 7 4) ≡ 12) × (first (read_checks line 8 3) ≡ 12)
unfolding read_checks stored_checks first is_line is_marked is_number is_text every same_bytes until end_at values_of number_from decode decoded_length octet four value_at value_of unused tabulate
room_for_both = (refl, refl, refl)

pub room_for_one : (first (write_checks values 37) ≡ 0) × (first (write_checks values 36) ≡ 12)
unfolding write_checks stored_checks first joined line_of decimal_up_to encode encoded_length sextet three letter tabulate
room_for_one = (refl, refl)

-- T written as 01
pub leading_zero : first (read_checks (36 ∷ 108 ∷ 121 ∷ 114 ∷ 97 ∷ 50 ∷ 36 ∷ 116 ∷ 61 ∷ 48 ∷ 49 ∷ 44 ∷ 114 ∷ 61 ∷ 51 ∷ 44 ∷ 99 ∷ 61 ∷ 49 ∷ 36 ∷ 99 ∷ 50 ∷ 70 ∷ 115 ∷ 100 ∷ 72 ∷ 78 ∷ 104 ∷ 98 ∷ 72 ∷ 81 ∷ 36 ∷ 65 ∷ 65 ∷ 69 ∷ 67 ∷ 65 ∷ 119 ∷ []) 8 4) ≡ 11
unfolding read_checks stored_checks first is_line is_marked is_number is_text every same_bytes until end_at values_of number_from decode decoded_length octet four value_at value_of unused tabulate
leading_zero = refl

-- a newline behind the key
pub newline_behind : first (read_checks (36 ∷ 108 ∷ 121 ∷ 114 ∷ 97 ∷ 50 ∷ 36 ∷ 116 ∷ 61 ∷ 49 ∷ 44 ∷ 114 ∷ 61 ∷ 51 ∷ 44 ∷ 99 ∷ 61 ∷ 49 ∷ 36 ∷ 99 ∷ 50 ∷ 70 ∷ 115 ∷ 100 ∷ 72 ∷ 78 ∷ 104 ∷ 98 ∷ 72 ∷ 81 ∷ 36 ∷ 65 ∷ 65 ∷ 69 ∷ 67 ∷ 65 ∷ 119 ∷ 10 ∷ []) 8 4) ≡ 11
unfolding read_checks stored_checks first is_line is_marked is_number is_text every same_bytes until end_at values_of number_from decode decoded_length octet four value_at value_of unused tabulate
newline_behind = refl

-- `$lyra2$t=0,r=3,c=1$$` is of the form, and has no key
pub empty_key : first (read_checks (36 ∷ 108 ∷ 121 ∷ 114 ∷ 97 ∷ 50 ∷ 36 ∷ 116 ∷ 61 ∷ 48 ∷ 44 ∷ 114 ∷ 61 ∷ 51 ∷ 44 ∷ 99 ∷ 61 ∷ 49 ∷ 36 ∷ 36 ∷ []) 0 0) ≡ 1
unfolding read_checks stored_checks first is_line is_marked is_number is_text every same_bytes until end_at values_of number_from decode decoded_length octet four value_at value_of unused tabulate
empty_key = refl
