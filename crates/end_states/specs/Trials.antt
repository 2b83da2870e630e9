-- Recorded derivations that were carried out.
use Rattle.std.specs.Prelude.{◌≡◌, ℕ, ◌<◌, List, length, get_or, take}
use Rattle.settings.specs.Settings.{settings}
use Rattle.settings.specs.Sizes.{matrix_words, record_words}
use Rattle.settings.specs.declared.Parameters.{Parameters}
use Rattle.input.specs.Input.{Input, input}
use Rattle.derivation.specs.Promises.{Recorded}
use Rattle.derivation.specs.Answers.{Costs}
use Rattle.end_states.specs.EndStates.{End}

-- a call of the recorded derivation: its input, the lent buffers before it and after it, its answer. All that is known of it is that
-- it met the contract and was accepted, and that password and salt are bytes.
pub record Trial (p : Parameters) : Type 0 where
  pub password : List ℕ
  pub salt : List ℕ
  pub key : List ℕ
  pub matrix : List ℕ
  pub visited : List ℕ
  pub key' : List ℕ
  pub matrix' : List ℕ
  pub visited' : List ℕ
  pub costs : Costs
  pub state : List ℕ
  pub meets : Recorded p (input password salt (length key)) key matrix visited key' matrix' visited' costs state
  pub accepted : costs.refusal ≡ 0
  pub password_bytes : (i : ℕ) → get_or password i 0 < 256
  pub salt_bytes : (i : ℕ) → get_or salt i 0 < 256

abbrev pub input_of : {p : Parameters} → Trial p → Input
input_of t = input t.password t.salt (length t.key)

-- what the call returned as the state, and the used parts of what it left in matrix and record
abbrev pub left_by : {p : Parameters} → Trial p → End
left_by {p} t = record {
  state = t.state;
  matrix = take (matrix_words (settings p)) t.matrix';
  visited = take (record_words (settings p)) t.visited';
}
