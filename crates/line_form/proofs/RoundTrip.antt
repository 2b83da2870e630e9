-- Writing and reading undo each other, as theorems about what the two operations promise. Assumes nothing.
use mathlib.Core.Path.{◌≡◌, refl, sym, ap, ap₂, subst, ◌∙◌}
use mathlib.Core.Logic.{◌↔◌}
use mathlib.Core.Bool.{Bool, true, false, true≢false, ◌||◌}
use Prim.Native.Nat.{ℕ, ◌≤◌}
use native.Mathlib.Omega.{arith}
use mathlib.Core.List.{List, [], ◌∷◌, ◌++◌}
use lib.ListN.{length, take}
use borrow.Author.Tests.{le-ltb}
use Rattle.lists.proofs.ZipLaws.{put_front}
use Rattle.refusals.specs.Checks.{◌≤?◌, Check, flag, first, refuses, answered, form_check, output_check, stored_checks}
use Rattle.refusals.proofs.Accepted.{accepted, flag-set, first_passed, first_refused, first_none, first_before, first_other, first_last, more_pass}
use Rattle.refusals.proofs.Answered.{answered_is, answered_number}
use Rattle.line_form.specs.Line.{Values, Bytes, line_of, is_line, values_of, length_by}
use Rattle.line_form.specs.Promises.{value_checks, LineValues, read_checks, line_values, no_values, read_answer, read_number, Read, LineLength, write_checks, line_length, no_length, write_number, Written}
use Rattle.line_form.proofs.Inverse.{line_is_line, values_of_line, line_of_values, values_bytes}
use Rattle.line_form.proofs.Lengths.{line-length, line_most}

-- ---- what an accepted call left

abbrev room_of : Values → ℕ → ℕ → Check
room_of v s k = output_check (length v.salt ≤? s ∷ length v.key ≤? k ∷ [])

abbrev line_room : Values → ℕ → Check
line_room v room = output_check (length (line_of v) ≤? room ∷ [])

-- a writing's number, and what was written
module _ {v : Values} {out out' : List ℕ} {w : LineLength} (q : Written v out out' w) where
  write_number_lem : write_number v out ≡ w.refusal
  unfolding line_length no_length
  write_number_lem =
      sym (answered_number (λ (a : LineLength). a.refusal) (write_number v out) (line_length (length (line_of v))) (no_length (write_number v out)) refl refl)
      ∙ sym (ap (λ (a : LineLength). a.refusal) q.answer)

  module _ (ok : w.refusal ≡ 0) where
    none : write_number v out ≡ 0
    none = write_number_lem ∙ ok

    values_accepted : first (value_checks v) ≡ 0
    unfolding write_checks
    values_accepted = first_before (value_checks v) (line_room v (length out) ∷ []) none

    line_fits : length (line_of v) ≤ length out
    unfolding write_checks stored_checks
    line_fits = let bounds = accepted (write_checks v (length out)) (omega arith) none in omega arith

    length_is : w ≡ line_length (length (line_of v))
    length_is = answered_is _ _ none q.answer

    written_line : take w.length out' ≡ line_of v
    unfolding line_length
    written_line =
        ap₂ (λ (n : ℕ) (l : List ℕ). take n l) (ap (λ (a : LineLength). a.length) length_is) (answered_is _ _ none q.line_after)
        ∙ put_front out (line_of v) line_fits

-- a reading's number, and what was read
module _ {line salt key salt' key' : List ℕ} {r : LineValues} (q : Read line salt key salt' key' r) where
  read_number_lem : read_number line salt key ≡ r.refusal
  unfolding read_answer line_values no_values
  read_number_lem =
      sym
      (answered_number (λ (a : LineValues). a.refusal) (read_number line salt key) (line_values (values_of line)) (no_values (read_number line salt key)) refl refl)
      ∙ sym (ap (λ (a : LineValues). a.refusal) q.answer)

  module _ (ok : r.refusal ≡ 0) where
    read_none : read_number line salt key ≡ 0
    read_none = read_number_lem ∙ ok

    read_bounds : (1 ≤ flag (is_line line)) × (length (values_of line).salt ≤ length salt) × (length (values_of line).key ≤ length key)
    unfolding read_checks stored_checks
    read_bounds = let bounds = accepted (read_checks line (length salt) (length key)) (omega arith) read_none in (omega arith, omega arith, omega arith)

    line_is : is_line line ≡ true
    line_is = flag-set (is_line line) read_bounds.0

    values_are : r ≡ line_values (values_of line)
    unfolding read_answer
    values_are = answered_is _ _ read_none q.answer

    salt_read : take r.salt salt' ≡ (values_of line).salt
    unfolding line_values
    salt_read =
        ap₂ (λ (n : ℕ) (l : List ℕ). take n l) (ap (λ (a : LineValues). a.salt) values_are) (answered_is _ _ read_none q.salt_after)
        ∙ put_front salt (values_of line).salt read_bounds.1

    key_read : take r.key key' ≡ (values_of line).key
    unfolding line_values
    key_read =
        ap₂ (λ (n : ℕ) (l : List ℕ). take n l) (ap (λ (a : LineValues). a.key) values_are) (answered_is _ _ read_none q.key_after)
        ∙ put_front key (values_of line).key read_bounds.2

-- ---- a written line is read as what it was written from

-- no check of a reading refuses the line of values within the limits, where there is room
line_accepted : (v : Values) → Bytes v → first (value_checks v) ≡ 0 → (s k : ℕ) → length v.salt ≤ s → length v.key ≤ k → first (read_checks (line_of v) s k) ≡ 0
unfolding read_checks stored_checks
line_accepted v bytes e s k hs hk =
    let salt = le-ltb s (length v.salt) hs in
    let key = le-ltb k (length v.key) hk in
    let room = first_passed (room_of v s k) [] (λ i. salt i || (key i || false)) in
    (λ i. first (form_check (line_is_line v i) ∷ value_checks (values_of_line v bytes i) ++ (room_of (values_of_line v bytes i) s k ∷ [])))
    ∙ first_passed (form_check true) (value_checks v ++ (room_of v s k ∷ [])) refl
    ∙ sym (more_pass (value_checks v) (room_of v s k ∷ []) (sym e) (omega arith) refl (first_none ∙ sym room))

pub written_then_read : {v : Values} {out out' : List ℕ} {w : LineLength} → Written v out out' w → w.refusal ≡ 0 → Bytes v
    → {salt key salt' key' : List ℕ} {r : LineValues} → Read (take w.length out') salt key salt' key' r
    → length v.salt ≤ length salt → length v.key ≤ length key
    → (r ≡ line_values v) × (take r.salt salt' ≡ v.salt) × (take r.key key' ≡ v.key)
written_then_read {v} {out} {out'} {w} q ok bytes {salt} {key} {salt'} {key'} {r} p hs hk =
    let read : Read (line_of v) salt key salt' key' r = subst (λ (l : List ℕ). Read l salt key salt' key' r) (written_line q ok) p in
    let accepted_too : r.refusal ≡ 0 =
    sym (read_number_lem read) ∙ line_accepted v bytes (values_accepted q ok) (length salt) (length key) hs hk in
    let back = values_of_line v bytes in (
      values_are read accepted_too ∙ ap line_values back,
      salt_read read accepted_too ∙ ap (λ (x : Values). x.salt) back,
      key_read read accepted_too ∙ ap (λ (x : Values). x.key) back,
    )

-- ---- what was read is written as the line that it was read from

-- what an accepted reading answered, with the bytes that it put
abbrev pub read_values : LineValues → List ℕ → List ℕ → Values
read_values r salt key =
    record { parameters = record { time = r.time; rows = r.rows; columns = r.columns }; salt = take r.salt salt; key = take r.key key }

module _ {line salt key salt' key' : List ℕ} {r : LineValues} (q : Read line salt key salt' key' r) (ok : r.refusal ≡ 0) where
  values_read : read_values r salt' key' ≡ values_of line
  unfolding line_values
  values_read =
      let a = values_are q ok in
      λ i.
      record {
        parameters = record { time = (a i).time; rows = (a i).rows; columns = (a i).columns };
        salt = salt_read q ok i;
        key = key_read q ok i;
      }

  pub line_read : line_of (read_values r salt' key') ≡ line
  line_read = ap line_of values_read ∙ line_of_values line (line_is q ok)

  read_accepted : first (value_checks (read_values r salt' key')) ≡ 0
  unfolding read_checks
  read_accepted =
      ap (λ (v : Values). first (value_checks v)) values_read
      ∙ first_before (value_checks (values_of line)) (room_of (values_of line) (length salt) (length key) ∷ [])
      (sym (first_passed (form_check (is_line line)) (value_checks (values_of line) ++ (room_of (values_of line) (length salt) (length key) ∷ []))
      (ap (λ (b : Bool). refuses (form_check b)) (line_is q ok)))
      ∙ read_none q ok)

  pub read_then_written : {out out' : List ℕ} {w : LineLength} → Written (read_values r salt' key') out out' w → length line ≤ length out
      → (w ≡ line_length (length line)) × (take w.length out' ≡ line)
  unfolding write_checks stored_checks
  read_then_written {out} {out'} {w} p h =
      let v = read_values r salt' key' in
      let long = le-ltb (length out) (length (line_of v)) (omega (arith, ap length line_read)) in
      let room = first_passed (line_room v (length out)) [] (ap (λ (b : Bool). b || false) long) in
      let none-too = sym (more_pass (value_checks v) (line_room v (length out) ∷ []) (sym read_accepted) (omega arith) refl (first_none ∙ sym room)) in
      let accepted_too : w.refusal ≡ 0 = sym (write_number_lem p) ∙ none-too in
      (length_is p accepted_too ∙ ap (λ (l : List ℕ). line_length (length l)) line_read, written_line p accepted_too ∙ line_read)

-- ---- no two accepted lines say the same, and no line is read in two ways

pub one_line : {l₁ s₁ k₁ s₁' k₁' l₂ s₂ k₂ s₂' k₂' : List ℕ} {r₁ r₂ : LineValues} → Read l₁ s₁ k₁ s₁' k₁' r₁ → Read l₂ s₂ k₂ s₂' k₂' r₂
    → r₁.refusal ≡ 0 → r₂.refusal ≡ 0 → (read_values r₁ s₁' k₁' ≡ read_values r₂ s₂' k₂') ↔ (l₁ ≡ l₂)
one_line q₁ q₂ ok₁ ok₂ = (
  λ e. sym (line_read q₁ ok₁) ∙ ap line_of e ∙ line_read q₂ ok₂,
  λ e. values_read q₁ ok₁ ∙ ap values_of e ∙ sym (values_read q₂ ok₂),
)

-- ---- the form: exactly what is the line of no values gets refusal 11

no_values_lem : (line : List ℕ) → ((v : Values) → Bytes v → line_of v ≡ line → ⊥) → is_line line ≡ false
no_values_lem line h = go (is_line line) refl
  where
    go : (b : Bool) → is_line line ≡ b → b ≡ false
    go true e = absurd (h (values_of line) (values_bytes line) (line_of_values line e))
    go false e = refl

pub form_refused : {line salt key salt' key' : List ℕ} {r : LineValues} → Read line salt key salt' key' r
    → (r.refusal ≡ 11) ↔ ((v : Values) → Bytes v → line_of v ≡ line → ⊥)
unfolding read_checks stored_checks
form_refused {line} {salt} {key} q =
    let later = value_checks (values_of line) ++ (room_of (values_of line) (length salt) (length key) ∷ []) in (
      λ e v bytes l.
          let is : is_line line ≡ true = ap is_line (sym l) ∙ line_is_line v in
          first_other 11 later (omega arith) (omega arith)
          (sym (first_passed (form_check (is_line line)) later (ap (λ (b : Bool). refuses (form_check b)) is)) ∙ read_number_lem q ∙ e),
      λ h.
          sym (read_number_lem q)
          ∙ first_refused (form_check (is_line line)) later
          (ap (λ (b : Bool). refuses (form_check b)) (no_values_lem line h)),
    )

-- ---- a writing's answer goes by lengths, T, R and C, and an output of 1,480 bytes is never too short

pub writing_by_lengths : {v₁ v₂ : Values} {o₁ o₁' o₂ o₂' : List ℕ} {w₁ w₂ : LineLength} → Written v₁ o₁ o₁' w₁ → Written v₂ o₂ o₂' w₂
    → v₁.parameters ≡ v₂.parameters → length v₁.salt ≡ length v₂.salt → length v₁.key ≡ length v₂.key → length o₁ ≡ length o₂ → w₁ ≡ w₂
unfolding write_checks
writing_by_lengths {v₁} {v₂} {o₁ = o₁} {o₂ = o₂} q₁ q₂ p s k o =
    let line = line-length v₁ ∙ (λ i. length_by (p i) (s i) (k i)) ∙ sym (line-length v₂) in
    let number : write_number v₁ o₁ ≡ write_number v₂ o₂ =
    λ i. first (stored_checks (k i) (s i) (p i) ++ (output_check (line i ≤? o i ∷ []) ∷ [])) in
    q₁.answer ∙ (λ i. answered (number i) (line_length (line i)) (no_length (number i))) ∙ sym q₂.answer

pub room_for_line : {v : Values} {out out' : List ℕ} {w : LineLength} → Written v out out' w → 1480 ≤ length out → w.refusal ≡ 12 → ⊥
unfolding write_checks stored_checks
room_for_line {v} {out} q h e =
    let why =
    first_last (value_checks v) (line_room v (length out)) (omega arith)
    (omega arith) (omega arith) (write_number_lem q ∙ e) in
    let short = le-ltb (length out) (length (line_of v)) (omega (arith, line_most v why.0)) in
    true≢false (sym why.1 ∙ ap (λ (b : Bool). b || false) short)

pub room_for_values : {line salt key salt' key' : List ℕ} {r : LineValues} → Read line salt key salt' key' r → 64 ≤ length salt → 1024 ≤ length key
    → r.refusal ≡ 12 → ⊥
unfolding read_checks stored_checks
room_for_values {line} {salt} {key} q hs hk e =
    let v = values_of line in
    let earlier = form_check (is_line line) ∷ value_checks v in
    let why =
    first_last earlier (room_of v (length salt) (length key)) (omega arith)
    (omega arith) (omega arith)
    (read_number_lem q ∙ e) in
    let bounds = accepted earlier (omega arith) why.0 in
    let s = le-ltb (length salt) (length v.salt) (omega arith) in
    let k = le-ltb (length key) (length v.key) (omega arith) in
    true≢false (sym why.1 ∙ (λ i. s i || (k i || false)))
