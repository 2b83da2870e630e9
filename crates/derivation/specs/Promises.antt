-- What the operations promise: the answer, and what they leave in each lent buffer. A buffer is `key` before the call and `key'` after
-- it. The record of the visits is called `visited`.
use Rattle.std.specs.Prelude.{◌≡◌, ℕ, List, length, replicate}
use Rattle.lists.specs.Zip.{put_into, cleared}
use Rattle.profile.specs.Profile.{state_words}
use Rattle.settings.specs.Settings.{settings}
use Rattle.settings.specs.Sizes.{matrix_words}
use Rattle.settings.specs.declared.Parameters.{Parameters}
use Rattle.input.specs.Input.{Input, lengths}
use Rattle.key.specs.Key.{same_bytes}
use Rattle.refusals.specs.Checks.{first, plain_checks, recorded_checks}
use Rattle.derivation.specs.Answers.{Costs, answered, cost_answer, flag}
use Rattle.derivation.specs.Derivation.{key_of, end_state, end_matrix, end_record}

-- the number of the first refusal, 0 where there is none
abbrev pub plain_number : Parameters → Input → List ℕ → ℕ
plain_number p x matrix = first (plain_checks (lengths x) p (length matrix))

abbrev pub recorded_number : Parameters → Input → List ℕ → List ℕ → ℕ
recorded_number p x matrix visited = first (recorded_checks (lengths x) p (length matrix) (length visited))

-- what the plain derivation and the check leave in the matrix: zeros in words 0 to 12·R·C - 1
abbrev pub cleared_matrix : Parameters → Input → List ℕ → List ℕ
cleared_matrix p x matrix = answered (plain_number p x matrix) (cleared (matrix_words (settings p)) matrix) matrix

-- a derivation that keeps nothing but the key, and a check of a key, which answers 1 for yes: by the number of the first refusal, the answer,
-- the key and the words of the used matrix
pub record DerivedAs (number : ℕ) (a : Costs) (k : List ℕ) (words : ℕ) (key matrix key' matrix' : List ℕ) (r : Costs) : Type 0 where
  pub answer : r ≡ a
  pub key_after : key' ≡ answered number k key
  pub matrix_after : matrix' ≡ answered number (cleared words matrix) matrix

pub record ComparedAs (number : ℕ) (a : Costs) (k : List ℕ) (words : ℕ) (stored matrix matrix' : List ℕ) (r : Costs) (same : ℕ) : Type 0 where
  pub answer : r ≡ a
  pub same_is : same ≡ answered number (flag (same_bytes stored k)) 0
  pub matrix_after : matrix' ≡ answered number (cleared words matrix) matrix

-- the plain derivation
abbrev pub Derived : Parameters → Input → List ℕ → List ℕ → List ℕ → List ℕ → Costs → Type 0
Derived p x key matrix =
    DerivedAs (plain_number p x matrix) (cost_answer (plain_number p x matrix) (lengths x) p) (key_of (settings p) x matrix) (matrix_words (settings p)) key matrix

-- a check by the number of its first refusal
abbrev pub ComparedBy : ℕ → Parameters → Input → List ℕ → List ℕ → List ℕ → Costs → ℕ → Type 0
ComparedBy number p x stored matrix =
    ComparedAs number (cost_answer number (lengths x) p) (key_of (settings p) x matrix) (matrix_words (settings p)) stored matrix

-- the check of a stored key
abbrev pub Compared : Parameters → Input → List ℕ → List ℕ → List ℕ → Costs → ℕ → Type 0
Compared p x stored matrix = ComparedBy (plain_number p x matrix) p x stored matrix

-- the recorded derivation, which also answers the state after the last visit and keeps the end matrix
pub record Recorded (p : Parameters) (x : Input) (key matrix visited key' matrix' visited' : List ℕ) (r : Costs) (state : List ℕ) : Type 0 where
  pub answer : r ≡ cost_answer (recorded_number p x matrix visited) (lengths x) p
  pub state_is : state ≡ answered (recorded_number p x matrix visited) (end_state (settings p) x matrix) (replicate state_words 0)
  pub key_after : key' ≡ answered (recorded_number p x matrix visited) (key_of (settings p) x matrix) key
  pub matrix_after : matrix' ≡ answered (recorded_number p x matrix visited) (end_matrix (settings p) x matrix) matrix
  pub visited_after : visited' ≡ answered (recorded_number p x matrix visited) (put_into visited (end_record (settings p) x matrix)) visited
