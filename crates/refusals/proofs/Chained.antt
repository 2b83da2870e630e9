-- Checks one after another, as code goes through them with `?`. Assumes nothing.
use mathlib.Core.Path.{◌≡◌, refl, sym, ap, ◌∙◌}
use Prim.Native.Nat.{ℕ, ◌<◌}
use native.Mathlib.Omega.{arith}
use mathlib.Core.Bool.{Bool, true, false, cond, ◌||◌}
use mathlib.Core.List.{List, [], ◌∷◌, ◌++◌}
use lib.Dec.{ltb}
use Rattle.std.specs.Prelude.{Result, Err}
use Rattle.std.specs.Result.{IsErr, IsErrAnd}
use Rattle.std.proofs.lemmas.Result.{err_from_is_err_and}
use Rattle.refusals.specs.declared.Refusal.{Refusal}
use Rattle.refusals.specs.declared.Refusal.TheVariants.{KeyLength, PasswordLength, SaltTooShort, TimeCost, RowCount, ColumnCount, MatrixLength, RecordLength, SetupRow, SaltTooLong, LineForm, OutputLength, RoundCount, Rotation, TryCount, NothingFits, BookForm, NoAccount, BookLength, LaneCount}
use Rattle.refusals.specs.Checks.{Bound, ◌≤?◌, Check, broken, first, answered}
use Rattle.refusals.specs.Refusals.{number_of, answer_number}
use Rattle.refusals.proofs.Answered.{answered-yes, answered_no}
use Rattle.refusals.proofs.Accepted.{Numbered, more_refuse, more_pass}

pub number_above : (r : Refusal) → 0 < number_of r
number_above KeyLength = omega arith
number_above PasswordLength = omega arith
number_above SaltTooShort = omega arith
number_above TimeCost = omega arith
number_above RowCount = omega arith
number_above ColumnCount = omega arith
number_above MatrixLength = omega arith
number_above RecordLength = omega arith
number_above SetupRow = omega arith
number_above SaltTooLong = omega arith
number_above LineForm = omega arith
number_above OutputLength = omega arith
number_above RoundCount = omega arith
number_above Rotation = omega arith
number_above TryCount = omega arith
number_above NothingFits = omega arith
number_above BookForm = omega arith
number_above NoAccount = omega arith
number_above BookLength = omega arith
number_above LaneCount = omega arith

module _ (cs ds : List Check) where
  -- one of the earlier checks refuses
  pub refused : {n : ℕ} → n ≡ first cs → 0 < n → n ≡ first (cs ++ ds)
  refused e h = more_refuse cs ds e (λ z. omega arith)

  -- none of them does
  pub passed : {n : ℕ} → Numbered cs → 0 ≡ first cs → n ≡ first ds → n ≡ first (cs ++ ds)
  passed h e f = more_pass cs ds e h refl f

-- a check of several bounds is as two checks of one number
module _ (n : ℕ) where
  abbrev numbered : List Bound → Check
  numbered bounds = record { number = n; bounds = bounds }

  either : (a b : Bool) (r : ℕ) → cond (a || b) n r ≡ cond a n (cond b n r)
  either true b r = refl
  either false b r = refl

  broken_joined : (earlier later : List Bound) → broken (earlier ++ later) ≡ (broken earlier || broken later)
  broken_joined [] later = refl
  broken_joined (x ≤? y ∷ earlier) later = ap (λ (b : Bool). ltb y x || b) (broken_joined earlier later) ∙ or_joined (ltb y x) (broken earlier) (broken later)
    where
      or_joined : (a b c : Bool) → (a || (b || c)) ≡ ((a || b) || c)
      or_joined true b c = refl
      or_joined false b c = refl

  pub split : (earlier later : List Bound) (cs : List Check) → first (numbered earlier ∷ numbered later ∷ cs) ≡ first (numbered (earlier ++ later) ∷ cs)
  unfolding first
  split earlier later cs = sym (ap (λ (b : Bool). cond b n (first cs)) (broken_joined earlier later) ∙ either (broken earlier) (broken later) (first cs))

-- what is answered beside the number of a refusal, and what where there is none
pub answered_refused : {B : Type 0} {n : ℕ} (r : Refusal) → number_of r ≡ n → (a b : B) → b ≡ answered n a b
answered_refused r e a b = answered_no a b e (λ z. omega (arith, number_above r)) refl

pub answered_given : {B : Type 0} {n : ℕ} → 0 ≡ n → (a b : B) → a ≡ answered n a b
answered_given e a b = answered-yes a b (sym e) refl

-- what `?` hands on
pub handed_is : {A : Type 0} (r : Refusal) (x : Result A Refusal) → IsErr x × IsErrAnd x (λ e. e ≡ r) → x ≡ Err r
handed_is r x h = let p = err_from_is_err_and x h.1 in p.1 ∙ ap Err p.2

pub handed_on : {A : Type 0} (r : Refusal) {n : ℕ} (x : Result A Refusal) → IsErr x × IsErrAnd x (λ e. e ≡ r) → (0 < number_of r → number_of r ≡ n)
    → answer_number x ≡ n
handed_on r x h e = ap answer_number (handed_is r x h) ∙ e (number_above r)
