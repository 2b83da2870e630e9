-- The texts of a login line, as the code finds and keeps them.
use Rattle.std.specs.Prelude.{◌≡◌, ℕ, min, Bool, true, cond, ◌&&◌, List}
use Rattle.decimal.specs.Decimal.{is_number}
use Rattle.base64_encoding.specs.Base64.{is_text}
use Rattle.line_form.specs.Line.{time_text, rows_text, columns_text, salt_text, key_text, is_line, values_of}
use Rattle.line_form.specs.Promises.{LineValues, line_values, no_values}
use Rattle.line_marks.specs.declared.Texts.{Texts}
use Rattle.line_marks.specs.Cuts.{Marked}

-- the form of the texts between the marks
unfoldable pub are_texts : List ℕ → Bool
are_texts line =
    is_number (time_text line) && is_number (rows_text line) && is_number (columns_text line) && is_text (salt_text line) && is_text (key_text line)

-- numbers of which 100,000 is kept where they are larger
unfoldable pub capped : LineValues → LineValues
capped v =
    record {
      refusal = v.refusal;
      time = min v.time 100000;
      rows = min v.rows 100000;
      columns = min v.columns 100000;
      salt = v.salt;
      key = v.key;
    }

-- what a line says, or that it is not of the form
unfoldable pub form_answer : List ℕ → LineValues
form_answer line = cond (is_line line) (capped (line_values (values_of line))) (no_values 11)

-- a line of the form, cut at its marks
pub record Formed (line : List ℕ) (t : Texts) : Type 0 where
  pub of_form : is_line line ≡ true
  pub marked : Marked line t
