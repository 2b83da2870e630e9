-- What the answer is held against: triples that fit, and shapes that could have been chosen.
use Rattle.std.specs.Prelude.{◌≡◌, ℕ, ◌≤◌, ◌<◌, List, [], ◌∷◌, ◌++◌}
use Rattle.settings.specs.Settings.{settings}
use Rattle.settings.specs.Sizes.{matrix_words}
use Rattle.settings.specs.declared.Lengths.{Lengths}
use Rattle.refusals.specs.Checks.{Check, first, cost_checks, given_checks, tries_check, min_rows, max_rows}
use Rattle.choice.specs.Choice.{Choice, triple, spends, cells}
use Rattle.choice.specs.declared.Limits.{Limits}
use Rattle.choice.specs.declared.Shape.{Shape}

-- the cost question accepts T, R and C, T is at least 1, and the matrix and the rounds stay within W and B
pub record Fits (l : Lengths) (g : Limits) (T : ℕ) (s : Shape) : Type 0 where
  pub allowed : first (cost_checks l (triple g T s.rows s.columns)) ≡ 0
  pub visited : 1 ≤ T
  pub words_fit : matrix_words (settings (triple g T s.rows s.columns)) ≤ g.words
  pub rounds_fit : spends l g T s ≤ g.budget

abbrev pub NothingFits : Lengths → Limits → Type 0
NothingFits l g = (T : ℕ) (s : Shape) → Fits l g T s → ⊥

-- R and C are allowed, with at most n columns and at most U cells
pub record Within (U n : ℕ) (s : Shape) : Type 0 where
  pub rows_least : min_rows ≤ s.rows
  pub rows_most : s.rows ≤ max_rows
  pub columns_least : 1 ≤ s.columns
  pub columns_most : s.columns ≤ n
  pub cells_most : cells s ≤ U

-- of these none has more cells, and none of as many has fewer columns; it is one of them, unless there are none
pub record Best (U n : ℕ) (s : Shape) : Type 0 where
  pub most_cells : (t : Shape) → Within U n t → cells t ≤ cells s
  pub fewest_columns : (t : Shape) → Within U n t → cells t ≡ cells s → s.columns ≤ t.columns
  pub one_of_them : 0 < cells s → Within U n s

-- the checks before that of the cells
abbrev pub earlier_checks : Lengths → Limits → List Check
earlier_checks l g = given_checks l g.rounds ++ (tries_check g.tries ∷ [])

-- R and C of an answer
abbrev pub shape_of : Choice → Shape
shape_of r = record { rows = r.rows; columns = r.columns }
