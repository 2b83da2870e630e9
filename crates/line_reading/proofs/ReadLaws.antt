-- What a reading answers, check by check. That the code keeps 100,000 in place of larger numbers makes no difference to any check.
-- Assumes nothing.
use mathlib.Core.Path.{◌≡◌, sym, ap, ap₂, subst, ◌∙◌}
use mathlib.Core.Bool.{Bool, true, false, cond, ◌||◌}
use Prim.Native.Nat.{ℕ, ◌≤◌, ◌<◌, min}
use native.Mathlib.Decide.{dec_lt}
use native.Mathlib.Omega.{arith}
use mathlib.Core.List.{List, ◌++◌}
use lib.Dec.{ltb}
use lib.ListN.{length}
use borrow.Author.Tests.{lt-ltb, le-ltb}
use Rattle.std.specs.Prelude.{Result, Err}
use Rattle.lists.specs.Zip.{put_into}
use Rattle.refusals.specs.declared.Refusal.{Refusal}
use Rattle.refusals.specs.declared.Refusal.TheVariants.{LineForm}
use Rattle.refusals.specs.Refusals.{number_of}
use Rattle.refusals.specs.Checks.{refuses, range, first, key_check, short_salt_check, long_salt_check, form_check, stored_checks}
use Rattle.refusals.proofs.Accepted.{accepted, first_refused, first_passed}
use Rattle.refusals.proofs.Chained.{answered_refused, answered_given}
use Rattle.base64_encoding.specs.Base64.{decode, decoded_length}
use Rattle.base64_encoding.proofs.Elements.{length-decode}
use Rattle.line_form.specs.Line.{is_line, values_of}
use Rattle.line_form.specs.Promises.{LineValues, value_checks, read_checks, line_values, no_values, said, values_answer, read_answer, Read}
use Rattle.line_form.specs.declared.LineValues.{LineValues as Said}
use Rattle.line_marks.specs.declared.Texts.{Texts}
use Rattle.line_texts.specs.Texts.{capped, Formed}
use Rattle.line_reading.specs.Checks.{room_checks, said_checks}

-- ---- numbers that are kept as 100,000

capped_below : (x least : ℕ) → least ≤ 100000 → ltb (min x 100000) least ≡ ltb x least
capped_below x least h =
    elim (dec_lt x least) [
      | yes less ↦ lt-ltb (min x 100000) least (omega arith) ∙ sym (lt-ltb x least less)
      | no more ↦ le-ltb (min x 100000) least (omega arith) ∙ sym (le-ltb x least (omega arith))
    ]

capped_above : (x most : ℕ) → most < 100000 → ltb most (min x 100000) ≡ ltb most x
capped_above x most h =
    elim (dec_lt most x) [
      | yes more ↦ lt-ltb most (min x 100000) (omega arith) ∙ sym (lt-ltb most x more)
      | no less ↦ le-ltb most (min x 100000) (omega arith) ∙ sym (le-ltb most x (omega arith))
    ]

-- a check between limits that 100,000 is outside of
capped-range : (number least most x : ℕ) → least ≤ 100000 → most < 100000
    → refuses (range number least most (min x 100000)) ≡ refuses (range number least most x)
capped-range number least most x hl hm = ap₂ (λ (a b : Bool). a || (b || false)) (capped_below x least hl) (capped_above x most hm)

capped_checks : (v : LineValues) (s k : ℕ) → first (said_checks (capped v) s k) ≡ first (said_checks v s k)
unfolding capped said_checks stored_checks first
capped_checks v s k =
    let time = capped-range 4 0 255 v.time (omega arith) (omega arith) in
    let rows = capped-range 5 3 16384 v.rows (omega arith) (omega arith) in
    let columns = capped-range 6 1 256 v.columns (omega arith) (omega arith) in
    λ i.
    cond (refuses (key_check v.key)) 1
    (cond (refuses (short_salt_check v.salt)) 3
    (cond (refuses (long_salt_check v.salt)) 10 (cond (time i) 4 (cond (rows i) 5 (cond (columns i) 6 (first (room_checks v s k)))))))

-- what is accepted, is kept as it is
capped_same : (v : LineValues) (s k : ℕ) → first (said_checks (capped v) s k) ≡ 0 → (capped v ≡ v) × (v.salt ≤ s) × (v.key ≤ k)
unfolding capped said_checks stored_checks
capped_same v s k e =
    let bounds = accepted (said_checks (capped v) s k) (omega arith) e in
    let time : min v.time 100000 ≡ v.time = omega arith in
    let rows : min v.rows 100000 ≡ v.rows = omega arith in
    let columns : min v.columns 100000 ≡ v.columns = omega arith in
    (λ i. record { refusal = v.refusal; time = time i; rows = rows i; columns = columns i; salt = v.salt; key = v.key }, omega arith, omega arith)

-- ---- the form, and what a line of the form says

module _ (l : List ℕ) (s k : ℕ) where
  pub form_number : (r : Refusal) → (r ≡ LineForm) × (is_line l ≡ false) → number_of r ≡ first (read_checks l s k)
  unfolding read_checks line_values
  form_number r h =
      ap number_of h.0
      ∙ sym (first_refused (form_check (is_line l)) (value_checks (values_of l) ++ room_checks (line_values (values_of l)) s k)
      (ap (λ (b : Bool). refuses (form_check b)) h.1))

  pub said_number : is_line l ≡ true → {v : LineValues} → v ≡ capped (line_values (values_of l)) → first (said_checks v s k) ≡ first (read_checks l s k)
  unfolding read_checks said_checks line_values
  said_number formed is =
      ap (λ (v : LineValues). first (said_checks v s k)) is ∙ capped_checks (line_values (values_of l)) s k
      ∙ sym (first_passed (form_check (is_line l)) (value_checks (values_of l) ++ room_checks (line_values (values_of l)) s k)
      (ap (λ (b : Bool). refuses (form_check b)) formed))

-- ---- the answers

module _ (l salt key : List ℕ) where
  pub read_refused : {x : Result Said Refusal} (r : Refusal) → x ≡ Err r → number_of r ≡ first (read_checks l (length salt) (length key))
      → Read l salt key salt key (values_answer x)
  unfolding read_answer
  read_refused r is e =
      subst (λ x. Read l salt key salt key (values_answer x)) (sym is)
      (record {
        answer = ap no_values e ∙ answered_refused r e _ _;
        salt_after = answered_refused r e _ _;
        key_after = answered_refused r e _ _;
      })

  -- nothing is refused
  module _ {t : Texts} (q : Formed l t) {v : Said} (is : said v ≡ capped (line_values (values_of l)))
      (none : 0 ≡ first (said_checks (said v) (length salt) (length key))) where
    kept : (capped (line_values (values_of l)) ≡ line_values (values_of l)) × (length (values_of l).salt ≤ length salt) × (length (values_of l).key ≤ length key)
    unfolding line_values
    kept =
        capped_same (line_values (values_of l)) (length salt) (length key)
        (ap (λ (w : LineValues). first (said_checks w (length salt) (length key))) (sym is) ∙ sym none)

    pub salt_fits : decoded_length (length t.salt.now) ≤ length salt
    unfolding values_of
    salt_fits = omega (arith, kept.1, length-decode t.salt.now, ap (λ (b : List ℕ). length (decode b)) q.marked.salt_is)

    pub key_fits : decoded_length (length t.key.now) ≤ length key
    unfolding values_of
    key_fits = omega (arith, kept.2, length-decode t.key.now, ap (λ (b : List ℕ). length (decode b)) q.marked.key_is)

    pub read_given : {salt' key' : List ℕ} → salt' ≡ put_into salt (decode t.salt.now) → key' ≡ put_into key (decode t.key.now)
        → Read l salt key salt' key' (said v)
    unfolding read_answer values_of
    read_given put_salt put_key =
        let zero = none ∙ said_number l (length salt) (length key) q.of_form is in
        record {
          answer = is ∙ kept.0 ∙ answered_given zero _ _;
          salt_after = put_salt ∙ ap (λ (b : List ℕ). put_into salt (decode b)) q.marked.salt_is ∙ answered_given zero _ _;
          key_after = put_key ∙ ap (λ (b : List ℕ). put_into key (decode b)) q.marked.key_is ∙ answered_given zero _ _;
        }
