-- Decimal digits as the code writes and reads them. Assumes nothing.
use mathlib.Core.Path.{◌≡◌, ap, subst, refl, sym, ◌∙◌}
use mathlib.Core.Bool.{Bool, true, false, cond, ◌&&◌}
use Prim.Native.Nat.{ℕ, zero, suc, ◌+◌, ◌-◌, ◌/◌, ◌%◌, ◌^◌, ◌≤◌, ◌<◌, ◌*◌, min}
use native.Mathlib.Nat.{pow-suc, pow-succ', div-div-eq-div-mul, one-le-pow, pow-le-pow_right, mul-le-mul_right}
use native.Mathlib.Decide.{dec_le, dec_lt}
use native.Mathlib.Omega.{arith}
use native.Mathlib.Numerals.{add-one}
use mathlib.Core.List.{List, [], ◌∷◌, ◌++◌}
use lib.ListN.{length, get_or, drop, drop_of_length-le, length-append, get_or-append}
use lib.Seq.{drop-cons, get_or_at}
use borrow.Author.Tests.{lt-ltb, le-ltb, le-leb, lt-leb}
use Rattle.std.specs.Char.{is_ascii_digit}
use Rattle.std.specs.List.{list_all}
use Rattle.lists.specs.Every.{every}
use Rattle.decimal.specs.Decimal.{decimal_up_to, decimal, is_digit, all_digits, number_from}

-- ---- written

-- as many digits as hold a number hold its decimal digits
pub decimal_fits : (k most n : ℕ) → n < 10 ^ suc k → length (decimal_up_to most n) ≤ suc k
unfolding decimal_up_to
decimal_fits k zero n h = omega arith
decimal_fits zero (suc most) n h = simp (lt-ltb n 10 (omega arith)) (omega arith)
decimal_fits (suc k) (suc most) n h =
    let tenth-fits = decimal_fits k most (n / 10) (omega (arith, pow-suc 10 (suc k))) in
    elim (dec_lt n 10) [
      | yes few ↦ simp (lt-ltb n 10 few) (omega arith)
      | no many ↦ simp (le-ltb n 10 (omega arith), length-append) (omega arith)
    ]

-- and a number that fewer digits do not hold has as many
decimal_long : (k most n : ℕ) → n < most → 10 ^ k ≤ n → suc k ≤ length (decimal_up_to most n)
unfolding decimal_up_to
decimal_long k zero n l h = absurd (omega arith)
decimal_long zero (suc most) n l h = simp length-append (omega arith)
decimal_long (suc k) (suc most) n l h =
    let tenth-long = decimal_long k most (n / 10) (omega (arith, pow-suc 10 k, one-le-pow k 10 (omega arith))) (omega (arith, pow-suc 10 k)) in
    simp (le-ltb n 10 (omega (arith, pow-suc 10 k, one-le-pow k 10 (omega arith))), length-append) (omega arith)

pub decimal-length_is : (k n : ℕ) → n < 10 ^ suc k → 10 ^ k ≤ n → suc k ≡ length (decimal_up_to (suc n) n)
decimal-length_is k n most least = omega (arith, decimal_fits k (suc n) n most, decimal_long k (suc n) n (omega arith) least)

pub decimal_one : (n : ℕ) → n < 10 → 1 ≡ length (decimal_up_to (suc n) n)
unfolding decimal_up_to
decimal_one n h = simp (lt-ltb n 10 h)

-- each digit by how many stand behind it

digit_alone : (n i : ℕ) → i < 1 → 48 + n / 10 ^ (1 - 1 - i) % 10 ≡ get_or ((48 + n % 10) ∷ []) i 0
digit_alone n zero h = omega arith
digit_alone n (suc i) h = absurd (omega arith)

digit_behind : (n : ℕ) (t : List ℕ) (i : ℕ) → i < length t + 1 → (i < length t → 48 + n / 10 / 10 ^ (length t - 1 - i) % 10 ≡ get_or t i 0)
    → 48 + n / 10 ^ (length t + 1 - 1 - i) % 10 ≡ get_or (t ++ ((48 + n % 10) ∷ [])) i 0
digit_behind n t i h before =
    elim (dec_lt i (length t)) [
      | yes inside ↦
          let place : length t + 1 - 1 - i ≡ suc (length t - 1 - i) = omega arith in
          ap (λ (e : ℕ). 48 + n / 10 ^ e % 10) place ∙ ap (λ (p : ℕ). 48 + n / p % 10) (pow-succ' 10 (length t - 1 - i))
          ∙ ap (λ (q : ℕ). 48 + q % 10) (sym (div-div-eq-div-mul n 10 (10 ^ (length t - 1 - i)))) ∙ before inside
          ∙ sym (get_or-append t ((48 + n % 10) ∷ []) 0 i inside)
      | no last ↦
          let place : length t + 1 - 1 - i ≡ 0 = omega arith in
          let end : length t ≡ i = omega arith in
          let whole : 48 + n / 10 ^ 0 % 10 ≡ 48 + n % 10 = omega arith in
          ap (λ (e : ℕ). 48 + n / 10 ^ e % 10) place ∙ whole ∙ sym (get_or_at t (48 + n % 10) [] 0 i end)
    ]

pub decimal_at : (most n i : ℕ) → n < most → i < length (decimal_up_to most n)
    → 48 + n / 10 ^ (length (decimal_up_to most n) - 1 - i) % 10 ≡ get_or (decimal_up_to most n) i 0
unfolding decimal_up_to
decimal_at zero n i l h = absurd (omega arith)
decimal_at (suc most) n i l h =
    elim (dec_lt n 10) [
      | yes few ↦
          let one : decimal_up_to (suc most) n ≡ (48 + n % 10) ∷ [] = simp (lt-ltb n 10 few) in
          subst (λ (t : List ℕ). i < length t → 48 + n / 10 ^ (length t - 1 - i) % 10 ≡ get_or t i 0) (sym one) (digit_alone n i) h
      | no many ↦
          let more : decimal_up_to (suc most) n ≡ decimal_up_to most (n / 10) ++ ((48 + n % 10) ∷ []) = simp (le-ltb n 10 (omega arith)) in
          let size = length-append (decimal_up_to most (n / 10)) ((48 + n % 10) ∷ []) in
          subst (λ (t : List ℕ). i < length t → 48 + n / 10 ^ (length t - 1 - i) % 10 ≡ get_or t i 0) (sym more)
          (λ inside.
          ap (λ (k : ℕ). 48 + n / 10 ^ (k - 1 - i) % 10) size
          ∙ digit_behind n (decimal_up_to most (n / 10)) i (omega arith) (λ before. decimal_at most (n / 10) i (omega arith) before)) h
    ]

-- the same by the code's count of digits
pub digit_is : (n : ℕ) {k i d : ℕ} → length (decimal n) ≡ k → i < k → d ≡ 48 + n / 10 ^ (k - 1 - i) % 10 → d ≡ get_or (decimal n) i 0
digit_is n {k} {i} size inside e =
    e ∙ ap (λ (m : ℕ). 48 + n / 10 ^ (m - 1 - i) % 10) (sym size) ∙ decimal_at (suc n) n i (omega arith) (omega arith)

-- ---- read: each digit is one more place, a byte that is no digit ends the reading, and what is too large stays so

-- i of the digits are read, and stand for a number of which v is kept
pub record Reading (ds : List ℕ) (i v : ℕ) : Type 0 where
  pub inside : i ≤ length ds
  pub exact : ℕ
  pub kept : v ≡ min exact 100000
  pub rest : number_from exact (drop i ds) ≡ number_from 0 ds

pub reading_none : {ds : List ℕ} → Reading ds 0 0
reading_none = record { inside = omega arith; exact = 0; kept = refl; rest = refl }

pub reading_end : {ds : List ℕ} {i v : ℕ} → Reading ds i v → length ds ≤ i → v ≡ min (number_from 0 ds) 100000
unfolding number_from
reading_end {ds} {i} {v} q h =
    q.kept ∙ ap (λ (n : ℕ). min n 100000) (ap (number_from q.exact) (sym (drop_of_length-le ds {i = i} h)) ∙ q.rest)

module _ {ds : List ℕ} {i v : ℕ} (q : Reading ds i v) (inside : i < length ds) where
  unread : cond (is_digit (get_or ds i 0)) (number_from (q.exact * 10 + (get_or ds i 0 - 48)) (drop (suc i) ds)) 0 ≡ number_from 0 ds
  unfolding number_from
  unread = ap (number_from q.exact) (sym (drop-cons ds i 0 inside)) ∙ q.rest

  pub reading_more : {w : ℕ} → is_digit (get_or ds i 0) ≡ true → w ≡ min (v * 10 + (get_or ds i 0 - 48)) 100000 → Reading ds (i + 1) w
  reading_more digit e =
      record {
        inside = omega arith;
        exact = q.exact * 10 + (get_or ds i 0 - 48);
        kept = omega (arith, q.kept);
        rest = rw add-one (rw digit at unread);
      }

  pub no_digit : is_digit (get_or ds i 0) ≡ false → 0 ≡ min (number_from 0 ds) 100000
  no_digit other = let zero_is : 0 ≡ number_from 0 ds = rw other at unread in omega arith

-- a number of k digits is below 10^k
number_below : (v : ℕ) (t : List ℕ) → number_from v t < (v + 1) * 10 ^ length t
unfolding number_from
number_below v [] = omega arith
number_below v (b ∷ t) =
    rw (pow-suc 10 (length t))
    (elim (dec_le 48 b) [
      | no low ↦ simp (lt-leb 48 b (omega arith)) (omega (arith, one-le-pow (length t) 10 (omega arith)))
      | yes least ↦
          elim (dec_le b 57) [
            | no high ↦ simp (le-leb 48 b least, lt-leb b 57 (omega arith)) (omega (arith, one-le-pow (length t) 10 (omega arith)))
            | yes most ↦
                let more : v * 10 + (b - 48) + 1 ≤ (v + 1) * 10 = omega arith in
                simp (le-leb 48 b least, le-leb b 57 most)
                (omega (arith, number_below (v * 10 + (b - 48)) t, mul-le-mul_right (10 ^ length t) more))
          ]
    ])

pub five_digits : (t : List ℕ) → length t ≤ 5 → number_from 0 t < 100000
five_digits t h = omega (arith, number_below 0 t, pow-le-pow_right {n = 10} (omega arith) {i = length t} {j = 5} h)

-- ---- the form

pub all_digits_is : (text : List ℕ) → list_all is_ascii_digit text ≡ all_digits text
unfolding every
all_digits_is [] = refl
all_digits_is (b ∷ text) = ap (λ (rest : Bool). is_digit b && rest) (all_digits_is text)
