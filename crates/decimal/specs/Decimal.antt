-- Numbers in decimal digits, however many. Bytes are in ASCII: 48 to 57 are the digits.
use Rattle.std.specs.Prelude.{ℕ, zero, suc, ◌+◌, ◌-◌, ◌*◌, ◌/◌, ◌%◌, Bool, cond, not, ◌&&◌, ◌||◌, List, [], ◌∷◌, ◌++◌, ltb, leb, eqb, length, get_or}
use Rattle.lists.specs.Every.{every}

-- ---- written

-- the decimal digits of n, where `most` digits are enough for it
unfoldable pub decimal_up_to : ℕ → ℕ → List ℕ
decimal_up_to zero n = []
decimal_up_to (suc most) n = cond (ltb n 10) [] (decimal_up_to most (n / 10)) ++ ((48 + n % 10) ∷ [])

-- n has at most suc n digits
abbrev pub decimal : ℕ → List ℕ
decimal n = decimal_up_to (suc n) n

-- ---- read

abbrev pub is_digit : ℕ → Bool
is_digit b = leb 48 b && leb b 57

abbrev pub all_digits : List ℕ → Bool
all_digits = every is_digit

-- the form of a number: one digit, or several of which the first is not 0
unfoldable pub is_number : List ℕ → Bool
is_number text = leb 1 (length text) && (eqb (length text) 1 || not (eqb (get_or text 0 0) 48)) && all_digits text

-- the number whose digits are those of v and then these, 0 where one of these is no digit
unfoldable pub number_from : ℕ → List ℕ → ℕ
number_from v [] = v
number_from v (b ∷ bs) = cond (is_digit b) (number_from (v * 10 + (b - 48)) bs) 0

-- the number that digits stand for
abbrev pub number_of : List ℕ → ℕ
number_of = number_from 0
