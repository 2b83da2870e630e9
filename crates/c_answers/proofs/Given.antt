-- A refusal's number and the number that is stored, as the answer that they are. Assumes nothing.
use mathlib.Core.Path.{◌≡◌, refl, ◌∙◌}
use mathlib.Core.Bool.{Bool, true, false, cond}
use Prim.Native.Nat.{ℕ}
use mathlib.Core.List.{List}
use Rattle.std.specs.Prelude.{Some, None, Result, Ok, Err}
use Rattle.refusals.specs.declared.Refusal.{Refusal}
use Rattle.refusals.specs.Refusals.{answer_number}
use Rattle.line_form.specs.Promises.{line_length, no_length, length_answer}
use Rattle.accounts.specs.Accounts.{head_of, is_whole, whole_entry, nothing, entry_of}
use Rattle.accounts.specs.Promises.{placed, no_place, place_answer}
use Rattle.c_answers.specs.Stored.{stored_length, stored_place, given_or, entry_or_nothing}

length_of : (a : Result ℕ Refusal) → stored_length (answer_number a) (given_or 0 a) ≡ length_answer a
unfolding line_length no_length
length_of (Ok n) = refl
length_of (Err r) = refl

place_of : (a : Result ℕ Refusal) → stored_place (answer_number a) (given_or 0 a) ≡ place_answer a
unfolding placed no_place
place_of (Ok n) = refl
place_of (Err r) = refl

pub length_given : (a : Result ℕ Refusal) {number n : ℕ} → number ≡ answer_number a → n ≡ given_or 0 a → stored_length number n ≡ length_answer a
length_given a e f = (λ i. stored_length (e i) (f i)) ∙ length_of a

pub place_given : (a : Result ℕ Refusal) {number n : ℕ} → number ≡ answer_number a → n ≡ given_or 0 a → stored_place number n ≡ place_answer a
place_given a e f = (λ i. stored_place (e i) (f i)) ∙ place_of a

-- an account that stands there, or zeros
pub entry_is : (bytes : List ℕ) → entry_or_nothing (whole_entry bytes) ≡ entry_of bytes
unfolding whole_entry entry_of
entry_is bytes = go (is_whole bytes)
  where
    go : (b : Bool) → entry_or_nothing (cond b (Some (head_of bytes)) None) ≡ cond b (head_of bytes) nothing
    go true = refl
    go false = refl
