-- The form of a line by its texts. Assumes nothing.
use mathlib.Core.Path.{◌≡◌, sym, ap, ◌∙◌}
use mathlib.Core.Bool.{Bool, true, false, ◌&&◌}
use Prim.Native.Nat.{ℕ, min}
use mathlib.Core.List.{List}
use lib.ListN.{length}
use Rattle.decimal.specs.Decimal.{is_number, number_of}
use Rattle.base64_encoding.specs.Base64.{is_text, decoded_length}
use Rattle.base64_encoding.proofs.Elements.{length-decode}
use Rattle.line_form.specs.Line.{salt_text, key_text, is_marked, is_line, values_of}
use Rattle.line_form.specs.Promises.{LineValues, line_values, no_values}
use Rattle.line_marks.specs.declared.Texts.{Texts}
use Rattle.line_marks.specs.Cuts.{Marked}
use Rattle.line_texts.specs.Texts.{are_texts, capped, form_answer}

abbrev pub forms : Texts → Bool
forms t = is_number t.time.now && is_number t.rows.now && is_number t.columns.now && is_text t.salt.now && is_text t.key.now

pub unmarked : (l : List ℕ) → is_marked l ≡ false → is_line l ≡ false
unfolding is_line
unmarked l h = simp h

module _ {l : List ℕ} {t : Texts} (m : Marked l t) where
  -- the texts of the line are those
  pub texts_are : forms t ≡ are_texts l
  unfolding are_texts
  texts_are = simp (m.time_is, m.rows_is, m.columns_is, m.salt_is, m.key_is)

  form_is : is_line l ≡ forms t
  unfolding is_line
  form_is = simp (m.marked, sym m.time_is, sym m.rows_is, sym m.columns_is, sym m.salt_is, sym m.key_is)

  pub of_form : forms t ≡ true → is_line l ≡ true
  of_form h = form_is ∙ h

  pub not_of_form : forms t ≡ false → is_line l ≡ false
  not_of_form h = form_is ∙ h

-- ---- what is answered of the form

module _ (l : List ℕ) {r : LineValues} where
  pub form_refused : is_line l ≡ false → r ≡ no_values 11 → r ≡ form_answer l
  unfolding form_answer
  form_refused h e = simp h e

  pub form_taken : is_line l ≡ true → r ≡ capped (line_values (values_of l)) → r ≡ form_answer l
  unfolding form_answer
  form_taken h e = simp h e

-- ---- what the texts say, each field by its text

abbrev kept : List ℕ → ℕ
kept t = min (number_of t) 100000

abbrev bytes : List ℕ → ℕ
bytes t = decoded_length (length t)

pub texts_say : (l : List ℕ) {t : Texts} → Marked l t → {time rows columns salt key : ℕ} → time ≡ kept t.time.now → rows ≡ kept t.rows.now
    → columns ≡ kept t.columns.now → salt ≡ bytes t.salt.now → key ≡ bytes t.key.now
    → record { refusal = 0; time = time; rows = rows; columns = columns; salt = salt; key = key } ≡ capped (line_values (values_of l))
unfolding capped line_values values_of
texts_say l m t r c s k =
    let time = t ∙ ap kept m.time_is in
    let rows = r ∙ ap kept m.rows_is in
    let columns = c ∙ ap kept m.columns_is in
    let salt = s ∙ ap bytes m.salt_is ∙ sym (length-decode (salt_text l)) in
    let key = k ∙ ap bytes m.key_is ∙ sym (length-decode (key_text l)) in
    λ i. record { refusal = 0; time = time i; rows = rows i; columns = columns i; salt = salt i; key = key i }
