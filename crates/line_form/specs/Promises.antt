-- What reading and writing a login line promise: the answer, and what they leave in each lent output. An output is `salt` before the call
-- and `salt'` after it.
use Rattle.std.specs.Prelude.{◌≡◌, ℕ, List, [], ◌∷◌, ◌++◌, length, Result, Ok, Err}
use Rattle.lists.specs.Zip.{put_into}
use Rattle.refusals.specs.Checks.{◌≤?◌, Check, first, answered, form_check, output_check, stored_checks}
use Rattle.refusals.specs.Refusals.{number_of}
use Rattle.refusals.specs.declared.Refusal.{Refusal}
use Rattle.line_form.specs.Line.{Values, line_of, is_line, values_of}
use Rattle.line_form.specs.declared.LineValues.{LineValues as Said}

-- the limits of what a line says
abbrev pub value_checks : Values → List Check
value_checks v = stored_checks (length v.key) (length v.salt) v.parameters

-- ---- reading

-- 0 or the number of a refusal, and what the line says, zeros beside a refusal
pub record LineValues : Type 0 where
  pub refusal : ℕ
  pub time : ℕ
  pub rows : ℕ
  pub columns : ℕ
  pub salt : ℕ
  pub key : ℕ

-- the form before any value, and the room of both outputs, in bytes, after all of them
unfoldable pub read_checks : List ℕ → ℕ → ℕ → List Check
read_checks line salt_room key_room =
    let v = values_of line in
    form_check (is_line line) ∷ value_checks v ++ (output_check (length v.salt ≤? salt_room ∷ length v.key ≤? key_room ∷ []) ∷ [])

unfoldable pub line_values : Values → LineValues
line_values v =
    record {
      refusal = 0;
      time = v.parameters.time;
      rows = v.parameters.rows;
      columns = v.parameters.columns;
      salt = length v.salt;
      key = length v.key;
    }

unfoldable pub no_values : ℕ → LineValues
no_values number = record { refusal = number; time = 0; rows = 0; columns = 0; salt = 0; key = 0 }

-- what the code answers, as such a record
abbrev pub said : Said → LineValues
said v = record { refusal = 0; time = v.time; rows = v.rows; columns = v.columns; salt = v.salt; key = v.key }

abbrev pub values_answer : Result Said Refusal → LineValues
values_answer (Ok v) = said v
values_answer (Err r) = no_values (number_of r)

-- by the room of the outputs
unfoldable pub read_answer : List ℕ → ℕ → ℕ → LineValues
read_answer line salt_room key_room =
    let number = first (read_checks line salt_room key_room) in answered number (line_values (values_of line)) (no_values number)

abbrev pub read_number : List ℕ → List ℕ → List ℕ → ℕ
read_number line salt key = first (read_checks line (length salt) (length key))

pub record Read (line salt key salt' key' : List ℕ) (r : LineValues) : Type 0 where
  pub answer : r ≡ read_answer line (length salt) (length key)
  pub salt_after : salt' ≡ answered (read_number line salt key) (put_into salt (values_of line).salt) salt
  pub key_after : key' ≡ answered (read_number line salt key) (put_into key (values_of line).key) key

-- ---- writing

-- 0 or the number of a refusal, and the line's length, zero beside a refusal
pub record LineLength : Type 0 where
  pub refusal : ℕ
  pub length : ℕ

unfoldable pub write_checks : Values → ℕ → List Check
write_checks v room = value_checks v ++ (output_check (length (line_of v) ≤? room ∷ []) ∷ [])

unfoldable pub line_length : ℕ → LineLength
line_length n = record { refusal = 0; length = n }

unfoldable pub no_length : ℕ → LineLength
no_length number = record { refusal = number; length = 0 }

abbrev pub length_answer : Result ℕ Refusal → LineLength
length_answer (Ok n) = line_length n
length_answer (Err r) = no_length (number_of r)

abbrev pub write_number : Values → List ℕ → ℕ
write_number v line = first (write_checks v (length line))

pub record Written (v : Values) (line line' : List ℕ) (r : LineLength) : Type 0 where
  pub answer : r ≡ answered (write_number v line) (line_length (length (line_of v))) (no_length (write_number v line))
  pub line_after : line' ≡ answered (write_number v line) (put_into line (line_of v)) line
