-- The login line: `$lyra2$t=T,r=R,c=C$SALT$KEY`. Bytes are in ASCII: 36 is the dollar, 44 the comma.
use Rattle.std.specs.Prelude.{ℕ, ◌+◌, ◌<◌, Bool, cond, ◌&&◌, List, [], ◌∷◌, ◌++◌, eqb, length, get_or, drop}
use Rattle.text.specs.Text.{stands_at}
use Rattle.settings.specs.declared.StoredParameters.{StoredParameters}
use Rattle.decimal.specs.Decimal.{decimal, is_number, number_of}
use Rattle.base64_encoding.specs.Base64.{encoded_length, encode, decode, is_text}

-- ---- written

-- what a line says
pub record Values : Type 0 where
  pub parameters : StoredParameters
  pub salt : List ℕ
  pub key : List ℕ

-- salt and key are bytes
pub record Bytes (v : Values) : Type 0 where
  pub salt_bytes : (i : ℕ) → get_or v.salt i 0 < 256
  pub key_bytes : (i : ℕ) → get_or v.key i 0 < 256

-- `$lyra2$t=`, `,r=`, `,c=` and `$`
abbrev pub start_mark : List ℕ
start_mark = 36 ∷ 108 ∷ 121 ∷ 114 ∷ 97 ∷ 50 ∷ 36 ∷ 116 ∷ 61 ∷ []

abbrev pub rows_mark : List ℕ
rows_mark = 44 ∷ 114 ∷ 61 ∷ []

abbrev pub columns_mark : List ℕ
columns_mark = 44 ∷ 99 ∷ 61 ∷ []

abbrev pub text_mark : List ℕ
text_mark = 36 ∷ []

unfoldable pub joined : List ℕ → List ℕ → List ℕ → List ℕ → List ℕ → List ℕ
joined time rows columns salt key =
    start_mark ++ (time ++ (rows_mark ++ (rows ++ (columns_mark ++ (columns ++ (text_mark ++ (salt ++ (text_mark ++ key))))))))

unfoldable pub line_of : Values → List ℕ
line_of v =
    joined (decimal v.parameters.time) (decimal v.parameters.rows) (decimal v.parameters.columns) (encode v.salt) (encode v.key)

-- the length of a line, by the lengths of salt and key: the marks take 17 bytes
unfoldable pub length_by : StoredParameters → ℕ → ℕ → ℕ
length_by p salt key =
    17 + length (decimal p.time) + length (decimal p.rows) + length (decimal p.columns) + encoded_length salt + encoded_length key

-- ---- read: each text ends before the first byte of the next mark

-- what stands before the first c
unfoldable pub until : ℕ → List ℕ → List ℕ
until c [] = []
until c (b ∷ bs) = cond (eqb b c) [] (b ∷ until c bs)

-- the place of the first c from place a on, the end where there is none
unfoldable pub end_at : ℕ → List ℕ → ℕ → ℕ
end_at c line a = a + length (until c (drop a line))

abbrev pub time_end : List ℕ → ℕ
time_end line = end_at 44 line 9

abbrev pub rows_end : List ℕ → ℕ
rows_end line = end_at 44 line (time_end line + 3)

abbrev pub columns_end : List ℕ → ℕ
columns_end line = end_at 36 line (rows_end line + 3)

abbrev pub salt_end : List ℕ → ℕ
salt_end line = end_at 36 line (columns_end line + 1)

abbrev pub time_text : List ℕ → List ℕ
time_text line = until 44 (drop 9 line)

abbrev pub rows_text : List ℕ → List ℕ
rows_text line = until 44 (drop (time_end line + 3) line)

abbrev pub columns_text : List ℕ → List ℕ
columns_text line = until 36 (drop (rows_end line + 3) line)

abbrev pub salt_text : List ℕ → List ℕ
salt_text line = until 36 (drop (columns_end line + 1) line)

abbrev pub key_text : List ℕ → List ℕ
key_text line = drop (salt_end line + 1) line

-- ---- the form

unfoldable pub is_marked : List ℕ → Bool
is_marked line =
    stands_at line 0 start_mark && stands_at line (time_end line) rows_mark && stands_at line (rows_end line) columns_mark
    && stands_at line (columns_end line) text_mark && stands_at line (salt_end line) text_mark

unfoldable pub is_line : List ℕ → Bool
is_line line =
    is_marked line && is_number (time_text line) && is_number (rows_text line) && is_number (columns_text line)
    && is_text (salt_text line) && is_text (key_text line)

-- what a line of the form says
unfoldable pub values_of : List ℕ → Values
values_of line =
    record {
      parameters =
          record { time = number_of (time_text line); rows = number_of (rows_text line); columns = number_of (columns_text line) };
      salt = decode (salt_text line);
      key = decode (key_text line);
    }
