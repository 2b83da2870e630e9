-- The checks by number, and those that each operation has, in its order.
use Rattle.std.specs.Prelude.{ℕ, ◌-◌, ◌/◌, ◌%◌, ◌≤◌, Bool, false, cond, ◌||◌, List, [], ◌∷◌, ◌++◌, ltb, eqb}
use Rattle.settings.specs.Settings.{settings, usual}
use Rattle.settings.specs.Sizes.{matrix_words, record_words}
use Rattle.settings.specs.declared.Parameters.{Parameters}
use Rattle.settings.specs.declared.StoredParameters.{StoredParameters}
use Rattle.settings.specs.declared.Lengths.{Lengths}

-- ---- a check: its number, and the bounds that a call has to keep

-- the first number is at most the second
infixl 70 ◌≤?◌
pub data Bound : Type 0 where
  ◌≤?◌ : ℕ → ℕ → Bound

pub record Check : Type 0 where
  pub number : ℕ
  pub bounds : List Bound

abbrev pub between : ℕ → ℕ → ℕ → List Bound
between least most value = least ≤? value ∷ value ≤? most ∷ []

-- a value is least to most, or no less than the least
abbrev pub range : ℕ → ℕ → ℕ → ℕ → Check
range number least most value = record { number = number; bounds = between least most value }

abbrev pub at_least : ℕ → ℕ → ℕ → Check
at_least number least value = record { number = number; bounds = least ≤? value ∷ [] }

-- 1 for yes and 0 for no
abbrev pub flag : Bool → ℕ
flag b = cond b 1 0

-- something is so
abbrev pub holds : ℕ → Bool → Check
holds number b = at_least number 1 (flag b)

-- ---- which check turns a call down

-- one of the bounds is not kept
abbrev pub broken : List Bound → Bool
broken [] = false
broken (a ≤? b ∷ bounds) = ltb b a || broken bounds

abbrev pub refuses : Check → Bool
refuses c = broken c.bounds

-- the number of the first check that refuses, 0 where none does
unfoldable pub first : List Check → ℕ
first [] = 0
first (c ∷ cs) = cond (refuses c) c.number (first cs)

-- what is given where no check refused, and what otherwise
unfoldable pub answered : {A : Type 0} → ℕ → A → A → A
answered number result otherwise = cond (eqb number 0) result otherwise

-- ---- what is so where no check refuses

abbrev pub Kept : List Bound → Type 0
Kept [] = Unit {0}
Kept (a ≤? b ∷ bounds) = (a ≤ b) × Kept bounds

abbrev pub Accepted : List Check → Type 0
Accepted [] = Unit {0}
Accepted (c ∷ cs) = Kept c.bounds × Accepted cs

-- ---- the table: each check by its number, with its limits

-- limits that more than their check goes by
abbrev pub max_time : ℕ
max_time = 255

abbrev pub min_rows : ℕ
min_rows = 3

abbrev pub max_rows : ℕ
max_rows = 16384

abbrev pub max_columns : ℕ
max_columns = 256

abbrev pub key_check : ℕ → Check
key_check = range 1 1 1024

abbrev pub password_check : ℕ → Check
password_check = range 2 0 1024

abbrev pub short_salt_check : ℕ → Check
short_salt_check = at_least 3 8

abbrev pub long_salt_check : ℕ → Check
long_salt_check = range 10 0 64

abbrev pub time_check : ℕ → Check
time_check = range 4 0 max_time

abbrev pub rows_check : ℕ → Check
rows_check = range 5 min_rows max_rows

abbrev pub columns_check : ℕ → Check
columns_check = range 6 1 max_columns

-- ρ and ω (request 106)
abbrev pub rounds_check : ℕ → Check
rounds_check = range 13 1 12

abbrev pub rotation_check : ℕ → Check
rotation_check = range 14 1 11

abbrev pub matrix_check : Parameters → ℕ → Check
matrix_check p = at_least 7 (matrix_words (settings p))

abbrev pub record_check : Parameters → ℕ → Check
record_check p = at_least 8 (record_words (settings p))

abbrev pub setup_row_check : ℕ → ℕ → Check
setup_row_check R = range 9 3 (R - 1)

-- a text is of its form
abbrev pub form_check : Bool → Check
form_check = holds 11

-- the lent outputs are long enough
abbrev pub output_check : List Bound → Check
output_check bounds = record { number = 12; bounds = bounds }

-- where costs are chosen (request 109): how many column counts may be tried, and how many cells a matrix may have at most, which one column of
-- the fewest rows has to fit
abbrev pub tries_check : ℕ → Check
tries_check = at_least 15 1

abbrev pub cells_check : ℕ → Check
cells_check = at_least 16 min_rows

-- a book of accounts (request 110): so many bytes are used of the lent ones, and they are a book; there is such an account; the book fits
-- once it is changed
abbrev pub book_check : ℕ → ℕ → Bool → Check
book_check used room good = record { number = 17; bounds = used ≤? room ∷ 1 ≤? flag good ∷ [] }

abbrev pub account_check : Bool → Check
account_check = holds 18

abbrev pub book_room_check : ℕ → ℕ → Check
book_room_check = at_least 19

-- several lanes (request 111): there is a visit; p is within its limits and divides R/2, R is even, and each lane has rows enough
abbrev pub max_lanes : ℕ
max_lanes = 8

abbrev pub min_lane_rows : ℕ
min_lane_rows = 4

abbrev pub visits_check : ℕ → Check
visits_check = range 4 1 max_time

abbrev pub lanes_check : ℕ → ℕ → Check
lanes_check R p = record { number = 20; bounds = 1 ≤? p ∷ p ≤? max_lanes ∷ (R / 2 % p) ≤? 0 ∷ (R % 2) ≤? 0 ∷ min_lane_rows ≤? (R / p) ∷ [] }

-- ---- the operations, each with its checks in their order

-- the lengths, which come first
abbrev pub length_checks : Lengths → List Check
length_checks l = key_check l.key ∷ password_check l.password ∷ short_salt_check l.salt ∷ long_salt_check l.salt ∷ []

-- the cost question
unfoldable pub cost_checks : Lengths → Parameters → List Check
cost_checks l p =
    length_checks l ++ (time_check p.time ∷ rows_check p.rows ∷ columns_check p.columns ∷ rounds_check p.rounds ∷ [])

-- the choice of costs: the lengths and ρ, which are given, then the column counts that may be tried, and the cells that fit
abbrev pub given_checks : Lengths → ℕ → List Check
given_checks l rounds = length_checks l ++ (rounds_check rounds ∷ [])

unfoldable pub choice_checks : Lengths → ℕ → ℕ → ℕ → List Check
choice_checks l rounds tries cells = given_checks l rounds ++ (tries_check tries ∷ cells_check cells ∷ [])

-- the plain derivation and the check of a key: ω and the words of the lent matrix too
unfoldable pub plain_checks : Lengths → Parameters → ℕ → List Check
plain_checks l p matrix = cost_checks l p ++ (rotation_check p.rotation ∷ matrix_check p matrix ∷ [])

-- the recorded derivation: the words of the lent record too
unfoldable pub recorded_checks : Lengths → Parameters → ℕ → ℕ → List Check
recorded_checks l p matrix visited = plain_checks l p matrix ++ (record_check p visited ∷ [])

-- what is kept of an operator: the lengths of key and salt, T, R and C
unfoldable pub stored_checks : ℕ → ℕ → StoredParameters → List Check
stored_checks key salt p =
    key_check key ∷ short_salt_check salt ∷ long_salt_check salt ∷ time_check p.time ∷ rows_check p.rows ∷ columns_check p.columns ∷ []

-- several lanes, of which there are p: the cost question, and then the words of the lent matrix
unfoldable pub lanes_cost_checks : Lengths → StoredParameters → ℕ → List Check
lanes_cost_checks l p lanes =
    length_checks l ++ (visits_check p.time ∷ rows_check p.rows ∷ columns_check p.columns ∷ lanes_check p.rows lanes ∷ [])

unfoldable pub lanes_checks : Lengths → StoredParameters → ℕ → ℕ → List Check
lanes_checks l p lanes matrix = lanes_cost_checks l p lanes ++ (matrix_check (usual p) matrix ∷ [])

-- the walk question; R alone is what the walk program asks
unfoldable pub walk_checks : ℕ → ℕ → List Check
walk_checks R row0 = rows_check R ∷ setup_row_check R row0 ∷ []
