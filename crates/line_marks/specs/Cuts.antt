-- The texts of a login line, as the code cuts it at its marks.
use Rattle.std.specs.Prelude.{◌≡◌, ℕ, ◌+◌, true, false, List, length, drop, Option, MatchOption}
use denote.Ref.{Bor}
use Rattle.text.specs.Text.{stands_at}
use Rattle.line_form.specs.Line.{until, time_text, rows_text, columns_text, salt_text, key_text, is_marked}
use Rattle.line_marks.specs.declared.Texts.{Texts}

-- a text in front, up to the first c, and what stands behind the mark there
pub record Cut (part : List ℕ) (c : ℕ) (mark text rest : List ℕ) : Type 0 where
  pub text_is : text ≡ until c part
  pub stands : stands_at part (length (until c part)) mark ≡ true
  pub rest_is : rest ≡ drop (length (until c part) + length mark) part

abbrev pub CutAt : List ℕ → ℕ → List ℕ → Option (Bor (List ℕ) × Bor (List ℕ)) → Type 0
CutAt part c mark r = MatchOption r (stands_at part (length (until c part)) mark ≡ false) (λ p. Cut part c mark p.0.now p.1.now)

-- the texts of a line whose marks stand
pub record Marked (line : List ℕ) (t : Texts) : Type 0 where
  pub marked : is_marked line ≡ true
  pub time_is : t.time.now ≡ time_text line
  pub rows_is : t.rows.now ≡ rows_text line
  pub columns_is : t.columns.now ≡ columns_text line
  pub salt_is : t.salt.now ≡ salt_text line
  pub key_is : t.key.now ≡ key_text line

-- they are found just where all marks stand
abbrev pub TextsOf : List ℕ → Option Texts → Type 0
TextsOf line r = MatchOption r (is_marked line ≡ false) (Marked line)
