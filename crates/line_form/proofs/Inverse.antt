-- Lines and values are inverse: the line of values is of the form and says these values, and a line of the form is the line of what it
-- says. So a list of bytes is of the form exactly when it is the line of some values, and these are then the only ones. Assumes nothing.
use mathlib.Core.Path.{◌≡◌, refl, sym, ap, ◌∙◌}
use mathlib.Core.Logic.{◌↔◌}
use mathlib.Core.Bool.{Bool, true, not, ◌&&◌, and-eq-true_iff}
use Prim.Native.Nat.{ℕ, ◌+◌, ◌<◌}
use native.Mathlib.Omega.{arith}
use mathlib.Core.List.{List, [], ◌∷◌, ◌++◌}
use lib.ListN.{length, get_or}
use lib.Dec.{eqb}
use borrow.Author.Tests.{ne_eqb}
use Rattle.lists.proofs.EveryLaws.{every_at, every_all, same_of_equal}
use Rattle.decimal.specs.Decimal.{decimal, is_digit, is_number, number_of}
use Rattle.decimal.proofs.Inverse.{digit_bounds, decimal_all_digits, decimal_number, number_decimal, decimal_of}
use Rattle.base64_encoding.specs.Base64.{encode, decode, is_text}
use Rattle.base64_encoding.proofs.Elements.{decode_bytes}
use Rattle.base64_encoding.proofs.Texts.{encode_text, text_no_dollar}
use Rattle.base64_encoding.proofs.Inverse.{decode-encode, encode-decode}
use Rattle.text.specs.Text.{stands_at}
use Rattle.text.proofs.Standing.{stands}
use Rattle.line_form.specs.Line.{Values, Bytes, start_mark, rows_mark, columns_mark, text_mark, joined, line_of, time_end, rows_end, columns_end, salt_end, time_text, rows_text, columns_text, salt_text, key_text, is_marked, is_line, values_of}
use Rattle.line_form.proofs.Cuts.{lacks, cut, cut_of}

-- ---- the parts of the form

pub record Marks (l : List ℕ) : Type 0 where
  pub start : stands_at l 0 start_mark ≡ true
  pub rows_mark : stands_at l (time_end l) rows_mark ≡ true
  pub columns_mark : stands_at l (rows_end l) columns_mark ≡ true
  pub salt_mark : stands_at l (columns_end l) text_mark ≡ true
  pub key_mark : stands_at l (salt_end l) text_mark ≡ true

pub record Line (l : List ℕ) : Type 0 where
  pub marks : Marks l
  pub time_form : is_number (time_text l) ≡ true
  pub rows_form : is_number (rows_text l) ≡ true
  pub columns_form : is_number (columns_text l) ≡ true
  pub salt_form : is_text (salt_text l) ≡ true
  pub key_form : is_text (key_text l) ≡ true

line_form_lem : {l : List ℕ} → Line l → is_line l ≡ true
unfolding is_line is_marked
line_form_lem q =
    let m = q.marks in
    λ i. m.start i && m.rows_mark i && m.columns_mark i && m.salt_mark i && m.key_mark i
    && q.time_form i && q.rows_form i && q.columns_form i && q.salt_form i && q.key_form i

pub both : {a b : Bool} → (a && b) ≡ true → (a ≡ true) × (b ≡ true)
both {a} {b} e = (and-eq-true_iff a b).0 e

pub marks_stand : {l : List ℕ} → is_marked l ≡ true → Marks l
unfolding is_marked
marks_stand e =
    let key = both e in
    let salt = both key.0 in
    let columns = both salt.0 in
    let rows = both columns.0 in
    record { start = rows.0; rows_mark = rows.1; columns_mark = columns.1; salt_mark = salt.1; key_mark = key.1 }

form_line : {l : List ℕ} → is_line l ≡ true → Line l
unfolding is_line
form_line e =
    let key = both e in
    let salt = both key.0 in
    let columns = both salt.0 in
    let rows = both columns.0 in
    let time = both rows.0 in
    record {
      marks = marks_stand time.0;
      time_form = time.1;
      rows_form = rows.1;
      columns_form = columns.1;
      salt_form = salt.1;
      key_form = key.1;
    }

-- ---- a line of the form is the line of what it says

joined_texts : {l : List ℕ} → Line l → joined (time_text l) (rows_text l) (columns_text l) (salt_text l) (key_text l) ≡ l
unfolding joined
joined_texts {l} q =
    let salt = cut 36 l (columns_end l + 1) text_mark q.marks.key_mark in
    let columns = cut 36 l (rows_end l + 3) text_mark q.marks.salt_mark in
    let rows = cut 44 l (time_end l + 3) columns_mark q.marks.columns_mark in
    let time = cut 44 l 9 rows_mark q.marks.rows_mark in
    sym
    (stands l 0 start_mark q.marks.start
    ∙ ap (λ (r : List ℕ). start_mark ++ r)
    (time ∙ ap (λ (r : List ℕ). time_text l ++ (rows_mark ++ r))
    (rows ∙ ap (λ (r : List ℕ). rows_text l ++ (columns_mark ++ r))
    (columns ∙ ap (λ (r : List ℕ). columns_text l ++ (text_mark ++ r)) salt))))

pub line_of_values : (l : List ℕ) → is_line l ≡ true → line_of (values_of l) ≡ l
unfolding line_of values_of
line_of_values l e =
    let q = form_line e in
    (λ i. joined (decimal_of (time_text l) q.time_form i) (decimal_of (rows_text l) q.rows_form i) (decimal_of (columns_text l) q.columns_form i)
    (encode-decode (salt_text l) q.salt_form i) (encode-decode (key_text l) q.key_form i))
    ∙ joined_texts q

pub values_bytes : (l : List ℕ) → Bytes (values_of l)
unfolding values_of
values_bytes l = record { salt_bytes = decode_bytes (salt_text l); key_bytes = decode_bytes (key_text l) }

-- ---- the line of values says these values

lacks_all : (c : ℕ) (t : List ℕ) → ((i : ℕ) → i < length t → get_or t i 0 ≡ c → ⊥) → lacks c t ≡ true
lacks_all c t h = every_all (λ b. not (eqb b c)) t (λ i inside. ap not (ne_eqb (get_or t i 0) c (h i inside)))

decimal_lacks : (c n : ℕ) → c < 48 → lacks c (decimal n) ≡ true
decimal_lacks c n small =
    lacks_all c (decimal n)
    (λ i inside e.
    let bounds = digit_bounds (get_or (decimal n) i 0) (every_at is_digit (decimal n) (decimal_all_digits _ n) i inside) in omega arith)

-- the texts and marks of a joined line
record Joined (l t r c s k : List ℕ) : Type 0 where
  time_is : time_text l ≡ t
  rows_is : rows_text l ≡ r
  columns_is : columns_text l ≡ c
  salt_is : salt_text l ≡ s
  key_is : key_text l ≡ k
  rows_stands : stands_at l (time_end l) rows_mark ≡ true
  columns_stands : stands_at l (rows_end l) columns_mark ≡ true
  salt_stands : stands_at l (columns_end l) text_mark ≡ true
  key_stands : stands_at l (salt_end l) text_mark ≡ true

joined_is : (t r c s k : List ℕ) → lacks 44 t ≡ true → lacks 44 r ≡ true → lacks 36 c ≡ true → lacks 36 s ≡ true → Joined (joined t r c s k) t r c s k
unfolding joined
joined_is t r c s k ht hr hc hs =
    let l = joined t r c s k in
    let salted = s ++ (text_mark ++ k) in
    let time = cut_of 44 (114 ∷ 61 ∷ []) l 9 t (r ++ (columns_mark ++ (c ++ (text_mark ++ salted)))) refl ht in
    let rows = cut_of 44 (99 ∷ 61 ∷ []) l (time_end l + 3) r (c ++ (text_mark ++ salted)) time.rest_is hr in
    let columns = cut_of 36 [] l (rows_end l + 3) c salted rows.rest_is hc in
    let salt = cut_of 36 [] l (columns_end l + 1) s k columns.rest_is hs in
    record {
      time_is = time.text_is;
      rows_is = rows.text_is;
      columns_is = columns.text_is;
      salt_is = salt.text_is;
      key_is = salt.rest_is;
      rows_stands = time.marked;
      columns_stands = rows.marked;
      salt_stands = columns.marked;
      key_stands = salt.marked;
    }

module _ (v : Values) where
  line-joined : Joined (line_of v) (decimal v.parameters.time) (decimal v.parameters.rows) (decimal v.parameters.columns) (encode v.salt) (encode v.key)
  unfolding line_of
  line-joined =
      joined_is _ _ _ _ _ (decimal_lacks 44 v.parameters.time (omega arith)) (decimal_lacks 44 v.parameters.rows (omega arith))
      (decimal_lacks 36 v.parameters.columns (omega arith)) (lacks_all 36 (encode v.salt) (text_no_dollar (encode v.salt) (encode_text v.salt)))

  pub line_is_line : is_line (line_of v) ≡ true
  unfolding line_of joined
  line_is_line =
      let j = line-joined in
      line_form_lem
      (record {
        marks =
            record {
              start = same_of_equal start_mark;
              rows_mark = j.rows_stands;
              columns_mark = j.columns_stands;
              salt_mark = j.salt_stands;
              key_mark = j.key_stands;
            };
        time_form = ap is_number j.time_is ∙ decimal_number v.parameters.time;
        rows_form = ap is_number j.rows_is ∙ decimal_number v.parameters.rows;
        columns_form = ap is_number j.columns_is ∙ decimal_number v.parameters.columns;
        salt_form = ap is_text j.salt_is ∙ encode_text v.salt;
        key_form = ap is_text j.key_is ∙ encode_text v.key;
      })

  pub values_of_line : Bytes v → values_of (line_of v) ≡ v
  unfolding values_of
  values_of_line bytes =
      let j = line-joined in
      let time = ap number_of j.time_is ∙ number_decimal v.parameters.time in
      let rows = ap number_of j.rows_is ∙ number_decimal v.parameters.rows in
      let columns = ap number_of j.columns_is ∙ number_decimal v.parameters.columns in
      let salt = ap decode j.salt_is ∙ decode-encode v.salt bytes.salt_bytes in
      let key = ap decode j.key_is ∙ decode-encode v.key bytes.key_bytes in
      λ i. record { parameters = record { time = time i; rows = rows i; columns = columns i }; salt = salt i; key = key i }

-- ---- the form in other words: the line of some values

pub form_is : (l : List ℕ) → (is_line l ≡ true) ↔ ((v : Values) × Bytes v × (line_of v ≡ l))
form_is l = (λ e. (values_of l, values_bytes l, line_of_values l e), λ w. ap is_line (sym w.2) ∙ line_is_line w.0)

-- no two lines of the form say the same, and no two values are said by one line
pub lines_differ : (l m : List ℕ) → is_line l ≡ true → is_line m ≡ true → values_of l ≡ values_of m → l ≡ m
lines_differ l m hl hm e = sym (line_of_values l hl) ∙ ap line_of e ∙ line_of_values m hm

pub values-differ : (v w : Values) → Bytes v → Bytes w → line_of v ≡ line_of w → v ≡ w
values-differ v w hv hw e = sym (values_of_line v hv) ∙ ap values_of e ∙ values_of_line w hw
