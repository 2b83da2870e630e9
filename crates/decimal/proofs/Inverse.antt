-- Decimal text and numbers are inverse: a number's digits are of the form and are read as that number, and a text of the form is the digits
-- of what it is read as. Assumes nothing.
use mathlib.Core.Path.{◌≡◌, refl, sym, ap, ap₂, ◌∙◌}
use mathlib.Core.Bool.{Bool, true, false, cond, not, ◌&&◌, ◌||◌, true≢false, and-eq-true_iff}
use Prim.Native.Nat.{ℕ, zero, suc, ◌+◌, ◌-◌, ◌/◌, ◌%◌, ◌*◌, ◌≤◌, ◌<◌}
use native.Mathlib.Nat.{le_trans}
use native.Mathlib.Decide.{dec_lt}
use native.Mathlib.Omega.{arith}
use mathlib.Core.List.{List, [], ◌∷◌, ◌++◌}
use lib.Dec.{ltb, leb, eqb}
use lib.ListN.{length, get_or, take, length-append, length-take, get_or-append}
use lib.Seq.{take-suc, take_all, get_or-take}
use borrow.Author.Tests.{lt-ltb, le-ltb, le-leb, leb-true, ne_eqb, eq-eqb}
use Rattle.lists.proofs.EveryLaws.{every_at, every_all, every_append}
use Rattle.lists.specs.Every.{every}
use Rattle.decimal.specs.Decimal.{decimal_up_to, decimal, is_digit, all_digits, is_number, number_from, number_of}

-- ---- a digit more

digit_is : (n : ℕ) → is_digit (48 + n % 10) ≡ true
digit_is n = simp (le-leb 48 (48 + n % 10) (omega arith), le-leb (48 + n % 10) 57 (omega arith))

pub digit_bounds : (b : ℕ) → is_digit b ≡ true → (48 ≤ b) × (b ≤ 57)
digit_bounds b e = let both = (and-eq-true_iff (leb 48 b) (leb b 57)).0 e in (leb-true 48 b both.0, leb-true b 57 both.1)

number_snoc : (v : ℕ) (t : List ℕ) (b : ℕ) → all_digits t ≡ true → is_digit b ≡ true
    → number_from v (t ++ (b ∷ [])) ≡ number_from v t * 10 + (b - 48)
unfolding number_from every
number_snoc v [] b e d = ap (λ (c : Bool). cond c (v * 10 + (b - 48)) 0) d
number_snoc v (x ∷ t) b e d =
    let both = (and-eq-true_iff (is_digit x) (all_digits t)).0 e in
    ap (λ (c : Bool). cond c (number_from (v * 10 + (x - 48)) (t ++ (b ∷ []))) 0) both.0
    ∙ number_snoc (v * 10 + (x - 48)) t b both.1 d
    ∙ ap (λ (c : Bool). cond c (number_from (v * 10 + (x - 48)) t) 0 * 10 + (b - 48)) (sym both.0)

-- digits never make a number smaller
number_grows : (v : ℕ) (t : List ℕ) → all_digits t ≡ true → v ≤ number_from v t
unfolding number_from every
number_grows v [] e = omega arith
number_grows v (x ∷ t) e =
    let both = (and-eq-true_iff (is_digit x) (all_digits t)).0 e in
    rw both.0 (omega (arith, number_grows (v * 10 + (x - 48)) t both.1))

-- ---- what the digits of a number are

module _ (most n : ℕ) where
  one_digit : n < 10 → decimal_up_to (suc most) n ≡ (48 + n % 10) ∷ []
  unfolding decimal_up_to
  one_digit h = simp (lt-ltb n 10 h)

  more_digits : 10 ≤ n → decimal_up_to (suc most) n ≡ decimal_up_to most (n / 10) ++ ((48 + n % 10) ∷ [])
  unfolding decimal_up_to
  more_digits h = simp (le-ltb n 10 h)

pub decimal_all_digits : (most n : ℕ) → all_digits (decimal_up_to most n) ≡ true
unfolding decimal_up_to every
decimal_all_digits zero n = refl
decimal_all_digits (suc most) n =
    every_append is_digit (cond (ltb n 10) [] (decimal_up_to most (n / 10))) ((48 + n % 10) ∷ [])
    (elim (ltb n 10) as (λ b. all_digits (cond b [] (decimal_up_to most (n / 10))) ≡ true) [ true ↦ refl | false ↦ decimal_all_digits most (n / 10) ])
    (ap (λ (b : Bool). b && true) (digit_is n))

number_decimal_up_to : (most n : ℕ) → n < most → number_of (decimal_up_to most n) ≡ n
unfolding number_from
number_decimal_up_to zero n h = absurd (omega arith)
number_decimal_up_to (suc most) n h =
    elim (dec_lt n 10) [
      | yes few ↦ rw (one_digit most n few, digit_is n) (omega arith)
      | no many ↦
          rw (more_digits most n (omega arith), number_snoc 0 (decimal_up_to most (n / 10)) (48 + n % 10) (decimal_all_digits most (n / 10)) (digit_is n), number_decimal_up_to most (n / 10) (omega arith))
          (omega arith)
    ]

pub number_decimal : (n : ℕ) → number_of (decimal n) ≡ n
number_decimal n = number_decimal_up_to (suc n) n (omega arith)

-- ---- the form

pub record Number (t : List ℕ) : Type 0 where
  pub some : 1 ≤ length t
  pub first : 2 ≤ length t → get_or t 0 0 ≡ 48 → ⊥
  pub digits : all_digits t ≡ true

not_both : (a b : Bool) → (a || not b) ≡ true → a ≡ false → b ≡ true → ⊥
not_both true b e f g = absurd (true≢false f)
not_both false true e f g = true≢false (sym e)
not_both false false e f g = true≢false (sym g)

pub number_form : (t : List ℕ) → is_number t ≡ true → Number t
unfolding is_number
number_form t e =
    let both = (and-eq-true_iff (leb 1 (length t) && (eqb (length t) 1 || not (eqb (get_or t 0 0) 48))) (all_digits t)).0 e in
    let head = (and-eq-true_iff (leb 1 (length t)) (eqb (length t) 1 || not (eqb (get_or t 0 0) 48))).0 both.0 in
    record {
      some = leb-true 1 (length t) head.0;
      first = λ several z. not_both (eqb (length t) 1) (eqb (get_or t 0 0) 48) head.1 (ne_eqb (length t) 1 (λ l. omega arith)) (eq-eqb (get_or t 0 0) 48 z);
      digits = both.1;
    }

pub form_number : (t : List ℕ) → Number t → is_number t ≡ true
unfolding is_number
form_number t q =
    elim (dec_lt (length t) 2) [
      | yes one ↦ simp (le-leb 1 (length t) q.some, eq-eqb (length t) 1 (omega (arith, q.some)), q.digits)
      | no several ↦
          simp (le-leb 1 (length t) q.some, ne_eqb (length t) 1 (λ l. omega arith), ne_eqb (get_or t 0 0) 48 (q.first (omega arith)), q.digits)
    ]

-- the first digit of a number above 0
leading : (most n : ℕ) → n < most → 0 < n → (1 ≤ length (decimal_up_to most n)) × (get_or (decimal_up_to most n) 0 0 ≡ 48 → ⊥)
leading zero n h p = absurd (omega arith)
leading (suc most) n h p =
    elim (dec_lt n 10) [
      | yes few ↦ rw (one_digit most n few) (omega arith, λ z. omega arith)
      | no many ↦
          let before = leading most (n / 10) (omega arith) (omega arith) in
          rw (more_digits most n (omega arith), length-append, get_or-append (decimal_up_to most (n / 10)) ((48 + n % 10) ∷ []) 0 0 before.0)
          (omega arith, before.1)
    ]

pub decimal_number : (n : ℕ) → is_number (decimal n) ≡ true
unfolding is_number decimal_up_to every
decimal_number zero = refl
decimal_number (suc n) =
    let l = leading (suc (suc n)) (suc n) (omega arith) (omega arith) in
    form_number (decimal (suc n)) (record { some = l.0; first = λ several. l.1; digits = decimal_all_digits (suc (suc n)) (suc n) })

-- ---- what a text of the form is read as

-- above 0, where the first digit is not 0
leading_number : (t : List ℕ) → all_digits t ≡ true → 1 ≤ length t → (get_or t 0 0 ≡ 48 → ⊥) → 1 ≤ number_of t
unfolding number_from every
leading_number [] e l z = absurd (omega arith)
leading_number (x ∷ t) e l z =
    let both = (and-eq-true_iff (is_digit x) (all_digits t)).0 e in
    let bounds = digit_bounds x both.0 in
    let more : 1 ≤ 0 * 10 + (x - 48) = omega arith in
    rw both.0 (le_trans more (number_grows (0 * 10 + (x - 48)) t both.1))

-- the last digit and those before it
module _ (t : List ℕ) (q : Number t) where
  split_last : t ≡ take (length t - 1) t ++ (get_or t (length t - 1) 0 ∷ [])
  split_last = sym (take_all (suc (length t - 1)) t (omega arith)) ∙ take-suc t (length t - 1) 0 (omega (arith, q.some))

  front_digits : all_digits (take (length t - 1) t) ≡ true
  front_digits =
      every_all is_digit (take (length t - 1) t)
      (λ i h.
      let inside : i < length t - 1 = omega (arith, length-take (length t - 1) t) in
      rw (get_or-take (length t - 1) t i 0 inside) (every_at is_digit t q.digits i (omega arith)))

  last_digit : is_digit (get_or t (length t - 1) 0) ≡ true
  last_digit = every_at is_digit t q.digits (length t - 1) (omega (arith, q.some))

  number_last : number_of t ≡ number_of (take (length t - 1) t) * 10 + (get_or t (length t - 1) 0 - 48)
  number_last = ap number_of split_last ∙ number_snoc 0 (take (length t - 1) t) (get_or t (length t - 1) 0) front_digits last_digit

  front_number : 2 ≤ length t → Number (take (length t - 1) t)
  front_number several =
      let l = length-take (length t - 1) t in
      record {
        some = omega arith;
        first = λ more z. q.first several (sym (get_or-take (length t - 1) t 0 0 (omega arith)) ∙ z);
        digits = front_digits;
      }

  front_positive : 2 ≤ length t → 1 ≤ number_of (take (length t - 1) t)
  front_positive several =
      leading_number (take (length t - 1) t) front_digits (front_number several).some
      (λ z. q.first several (sym (get_or-take (length t - 1) t 0 0 (omega arith)) ∙ z))

decimal_of_number : (most : ℕ) (t : List ℕ) → Number t → number_of t < most → decimal_up_to most (number_of t) ≡ t
unfolding number_from
decimal_of_number zero t q h = absurd (omega arith)
decimal_of_number (suc most) t q h =
    let last = digit_bounds (get_or t (length t - 1) 0) (last_digit t q) in
    let whole = number_last t q in
    elim (dec_lt (length t) 2) [
      | yes one ↦
          let alone : length t - 1 ≡ 0 = omega (arith, q.some) in
          let none : take (length t - 1) t ≡ [] = ap (λ (n : ℕ). take n t) alone in
          let small : number_of (take (length t - 1) t) ≡ 0 = ap number_of none in
          let digit : 48 + number_of t % 10 ≡ get_or t (length t - 1) 0 = omega arith in
          one_digit most (number_of t) (omega arith) ∙ ap₂ (λ (f : List ℕ) (b : ℕ). f ++ (b ∷ [])) (sym none) digit ∙ sym (split_last t q)
      | no many ↦
          let several : 2 ≤ length t = omega arith in
          let positive = front_positive t q several in
          let tenth : number_of t / 10 ≡ number_of (take (length t - 1) t) = omega arith in
          let digit : 48 + number_of t % 10 ≡ get_or t (length t - 1) 0 = omega arith in
          more_digits most (number_of t) (omega arith)
          ∙ ap₂ (λ (f : List ℕ) (b : ℕ). f ++ (b ∷ []))
          (ap (decimal_up_to most) tenth ∙ decimal_of_number most (take (length t - 1) t) (front_number t q several) (omega arith)) digit
          ∙ sym (split_last t q)
    ]

-- a text of the form is the digits of what it is read as
pub decimal_of : (t : List ℕ) → is_number t ≡ true → decimal (number_of t) ≡ t
decimal_of t e = decimal_of_number (suc (number_of t)) t (number_form t e) (omega arith)
