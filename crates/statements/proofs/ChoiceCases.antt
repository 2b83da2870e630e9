-- The choice of costs on small cases: the least that fits and what falls short of it, two with as many cells, and rows cut at their limit. Assumes nothing.
use mathlib.Core.Path.{◌≡◌, refl}
use Prim.Native.Nat.{ℕ}
use Rattle.padded_input.specs.Padded.{blocks}
use Rattle.input.specs.Input.{input_blocks}
use Rattle.key.specs.Key.{pieces}
use Rattle.refusals.specs.Checks.{first, answered, choice_checks}
use Rattle.derivation.specs.Cost.{full_cost}
use Rattle.derivation.specs.Answers.{costs, spent_on}
use Rattle.choice.specs.Greatest.{greatest_of}
use Rattle.choice.specs.Choice.{Choice, spends, cell_limit, rows_for, better, best_of, time_for, chosen, no_choice, choice_answer}

-- a key of 32 bytes, a password of 8 and a salt of 16: two full calls, 24 rounds
abbrev answer : ℕ → ℕ → ℕ → ℕ → Choice
answer words budget rounds tries =
    choice_answer (record { key = 32; password = 8; salt = 16 }) (record { words = words; budget = budget; rounds = rounds; tries = tries })

abbrev refused : ℕ → Choice
refused number = record { refusal = number; time = 0; rows = 0; columns = 0; shortfall = 0 }

abbrev choice : ℕ → ℕ → ℕ → ℕ → Choice
choice T R C shortfall = record { refusal = 0; time = T; rows = R; columns = C; shortfall = shortfall }

-- 36 words and 30 rounds are the least: three cells, each with two reduced calls of one round
pub least : (answer 36 30 1 1 ≡ choice 1 3 1 0) × (answer 36 29 1 1 ≡ refused 16) × (answer 35 30 1 1 ≡ refused 16) × (answer 36 30 1 0 ≡ refused 15)
unfolding choice_answer chosen no_choice answered first choice_checks cell_limit full_cost input_blocks blocks pieces best_of better rows_for time_for greatest_of spends costs spent_on
least = (refl, refl, refl, refl)

-- six cells: one column or two have as many, and the fewer columns are taken; T is the greatest inside the rounds, and ρ counts
pub fewer_columns : (answer 72 47 1 2 ≡ choice 2 6 1 0) × (answer 72 48 1 2 ≡ choice 3 6 1 0) × (answer 72 48 2 2 ≡ choice 1 6 1 0)
unfolding choice_answer chosen no_choice answered first choice_checks cell_limit full_cost input_blocks blocks pieces best_of better rows_for time_for greatest_of spends costs spent_on
fewer_columns = (refl, refl, refl)

-- 20,000 cells: one column has at most 16,384 of them, two have all
pub two_columns : (answer 240000 1000000 1 1 ≡ choice 60 16384 1 3616) × (answer 240000 1000000 1 2 ≡ choice 48 10000 2 0)
unfolding choice_answer chosen no_choice answered first choice_checks cell_limit full_cost input_blocks blocks pieces best_of better rows_for time_for greatest_of spends costs spent_on
two_columns = (refl, refl)
