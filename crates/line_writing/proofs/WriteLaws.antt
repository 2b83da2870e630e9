-- What a writing answers, check by check. Assumes nothing.
use mathlib.Core.Path.{◌≡◌, sym, ap, subst, ◌∙◌}
use Prim.Native.Nat.{ℕ, ◌<◌}
use native.Mathlib.Omega.{arith}
use mathlib.Core.List.{List, [], ◌∷◌, ◌++◌, append_assoc}
use lib.ListN.{length}
use Rattle.std.specs.Prelude.{Result, Err}
use Rattle.lists.specs.Zip.{zip_at}
use Rattle.text.specs.Text.{Appended}
use Rattle.refusals.specs.declared.Refusal.{Refusal}
use Rattle.refusals.specs.Refusals.{number_of}
use Rattle.refusals.specs.Checks.{◌≤?◌, Check, first, at_least, output_check, stored_checks}
use Rattle.refusals.proofs.Accepted.{accepted}
use Rattle.refusals.proofs.Chained.{refused, passed, answered_refused, answered_given}
use Rattle.decimal.specs.Decimal.{decimal}
use Rattle.base64_encoding.specs.Base64.{encode}
use Rattle.line_form.specs.Line.{Values, start_mark, rows_mark, columns_mark, text_mark, joined, line_of, length_by}
use Rattle.line_form.specs.Promises.{value_checks, write_checks, line_length, no_length, length_answer, write_number, Written}
use Rattle.line_writing.specs.Values.{WithinLimits}
use Rattle.line_form.proofs.Lengths.{line-length, line_most}

regroup : (a t b r d c e s k : List ℕ) → a ++ t ++ (b ++ r) ++ (d ++ c) ++ (e ++ s) ++ (e ++ k) ≡ a ++ (t ++ (b ++ (r ++ (d ++ (c ++ (e ++ (s ++ (e ++ k))))))))
regroup a t b r d c e s k = simp append_assoc

-- the line as it is put, mark and text by mark and text
pub regrouped : (v : Values)
    → start_mark ++ decimal v.parameters.time ++ (rows_mark ++ decimal v.parameters.rows) ++ (columns_mark ++ decimal v.parameters.columns)
    ++ (text_mark ++ encode v.salt) ++ (text_mark ++ encode v.key) ≡ line_of v
unfolding line_of joined
regrouped v =
    regroup start_mark (decimal v.parameters.time) rows_mark (decimal v.parameters.rows) columns_mark (decimal v.parameters.columns) text_mark
    (encode v.salt) (encode v.key)

module _ (v : Values) where
  -- what is known once the values are accepted
  pub values_fit : 0 ≡ first (value_checks v) → WithinLimits v.parameters (length v.salt) (length v.key)
  unfolding stored_checks
  values_fit none =
      let bounds = accepted (value_checks v) (omega arith) (sym none) in
      record {
        time_most = omega arith;
        rows_most = omega arith;
        columns_most = omega arith;
        salt_most = omega arith;
        key_most = omega arith;
        line_most = omega (arith, line-length v, line_most v (sym none));
      }

  module _ (line : List ℕ) where
    abbrev room_check : Check
    room_check = output_check (length (line_of v) ≤? length line ∷ [])

    pub values_number : {n : ℕ} → n ≡ first (value_checks v) → 0 < n → n ≡ write_number v line
    unfolding write_checks
    values_number e h = refused (value_checks v) (room_check ∷ []) e h

    -- the last check decides; the code asks it of the length by the lengths of salt and key
    pub room_number : {n k : ℕ} → 0 ≡ first (value_checks v) → k ≡ length_by v.parameters (length v.salt) (length v.key)
        → n ≡ first (at_least 12 k (length line) ∷ []) → n ≡ write_number v line
    unfolding write_checks stored_checks
    room_number none is e =
        passed (value_checks v) (room_check ∷ []) (omega arith) none
        (e ∙ ap (λ (k : ℕ). first (at_least 12 k (length line) ∷ [])) (is ∙ sym (line-length v)))

    pub write_refused : {x : Result ℕ Refusal} (r : Refusal) → x ≡ Err r → number_of r ≡ write_number v line → Written v line line (length_answer x)
    write_refused r is e =
        subst (λ x. Written v line line (length_answer x)) (sym is)
        (record { answer = ap no_length e ∙ answered_refused r e _ _; line_after = answered_refused r e _ _ })

    pub written : {m : ℕ} {out : List ℕ} → 0 ≡ write_number v line → Appended line out 0 (line_of v) m → Written v line out (line_length m)
    unfolding zip_at
    written none put =
        record {
          answer = ap line_length (put.next_is ∙ omega arith) ∙ answered_given none _ _;
          line_after = put.put ∙ answered_given none _ _;
        }
