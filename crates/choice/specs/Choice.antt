-- The choice of T, R and C within W words of a matrix and B rounds spent.
use Rattle.std.specs.Prelude.{ℕ, zero, suc, ◌-◌, ◌*◌, ◌/◌, min, cond, ltb, Result, Ok, Err}
use Rattle.mixer.specs.declared.Mixer.TheVariants.{Plain}
use Rattle.profile.specs.Profile.{full_rounds, cell_words, usual_rotation}
use Rattle.settings.specs.declared.Parameters.{Parameters}
use Rattle.settings.specs.declared.Lengths.{Lengths}
use Rattle.refusals.specs.Checks.{first, answered, min_rows, max_rows, max_columns, max_time, choice_checks}
use Rattle.refusals.specs.declared.Refusal.{Refusal}
use Rattle.refusals.specs.Refusals.{number_of}
use Rattle.derivation.specs.Cost.{full_cost}
use Rattle.derivation.specs.Answers.{costs}
use Rattle.choice.specs.Greatest.{greatest}
use Rattle.choice.specs.declared.Limits.{Limits}
use Rattle.choice.specs.declared.Shape.{Shape}
use Rattle.choice.specs.declared.ChosenCosts.{ChosenCosts}

-- T, R and C with the planner's ρ. No cost depends on ω or on the mixer.
abbrev pub triple : Limits → ℕ → ℕ → ℕ → Parameters
triple g T R C = record { time = T; rows = R; columns = C; rounds = g.rounds; rotation = usual_rotation; mixer = Plain }

-- the rounds that the cost question answers for them
unfoldable pub spends : Lengths → Limits → ℕ → Shape → ℕ
spends l g T s = (costs l (triple g T s.rows s.columns)).rounds

-- the rounds of the full calls, which every T, R and C have
abbrev pub full_spent : Lengths → ℕ
full_spent l = full_rounds * full_cost l

-- the rounds of a cell with T = 1: a reduced call of Setup and one of a visit
abbrev pub cell_spent : Limits → ℕ
cell_spent g = 2 * g.rounds

-- the most cells that the words, the rounds and the limits of R and C leave
abbrev pub smallest : Lengths → Limits → ℕ
smallest l g = min (g.words / cell_words) (min ((g.budget - full_spent l) / cell_spent g) (max_rows * max_columns))

-- document 02's U, the bound on the cells: 0 where not even the full calls are inside B
unfoldable pub cell_limit : Lengths → Limits → ℕ
cell_limit l g = cond (ltb g.budget (full_spent l)) 0 (smallest l g)

abbrev pub cells : Shape → ℕ
cells s = s.rows * s.columns

-- what is tried for C columns: the greatest allowed R with R-as-C at most U. Without one R is 0, so that the shape is never the better one.
unfoldable pub rows_for : ℕ → ℕ → ℕ
rows_for U C = greatest (λ R. R * C) U min_rows max_rows

abbrev pub shape_for : ℕ → ℕ → Shape
shape_for U C = record { rows = rows_for U C; columns = C }

-- the one with more cells, the first of two with as many
unfoldable pub better : Shape → Shape → Shape
better s t = cond (ltb (cells s) (cells t)) t s

-- the best of 1 to n columns
unfoldable pub best_of : ℕ → ℕ → Shape
best_of U zero = record { rows = 0; columns = 0 }
best_of U (suc n) = better (best_of U n) (shape_for U (suc n))

abbrev pub tried : Limits → ℕ
tried g = min g.tries max_columns

-- the greatest T from 1 on inside B
unfoldable pub time_for : Lengths → Limits → Shape → ℕ
time_for l g s = greatest (λ T. spends l g T s) g.budget 1 max_time

-- 0 or the number of a refusal; T, R and C; and how many cells more any other triple that fits may have
pub record Choice : Type 0 where
  pub refusal : ℕ
  pub time : ℕ
  pub rows : ℕ
  pub columns : ℕ
  pub shortfall : ℕ

abbrev pub answer_for : ℕ → ℕ → Shape → Choice
answer_for U T s = record { refusal = 0; time = T; rows = s.rows; columns = s.columns; shortfall = U - cells s }

unfoldable pub chosen : Lengths → Limits → Choice
chosen l g = let s = best_of (cell_limit l g) (tried g) in answer_for (cell_limit l g) (time_for l g s) s

unfoldable pub no_choice : ℕ → Choice
no_choice number = record { refusal = number; time = 0; rows = 0; columns = 0; shortfall = 0 }

-- the number of the first refusal, 0 where there is none
abbrev pub choice_number : Lengths → Limits → ℕ
choice_number l g = first (choice_checks l g.rounds g.tries (cell_limit l g))

unfoldable pub choice_answer : Lengths → Limits → Choice
choice_answer l g = answered (choice_number l g) (chosen l g) (no_choice (choice_number l g))

-- ---- the code's answers

abbrev pub choice_of : ChosenCosts → Choice
choice_of c = record { refusal = 0; time = c.time; rows = c.shape.rows; columns = c.shape.columns; shortfall = c.shortfall }

abbrev pub chosen_answer : Result ChosenCosts Refusal → Choice
chosen_answer (Ok c) = choice_of c
chosen_answer (Err r) = no_choice (number_of r)
