-- What the lanes work on. A lane is a sponge with rows of its own: of p lanes with n rows each, lane i has the rows from row i · n of the
-- matrix on.
use Rattle.std.specs.Prelude.{ℕ, ◌*◌, List, [], get_or, set}
use Rattle.columns.specs.Columns.{Work, work}

-- the state of each lane's sponge, and the matrix
pub record Works : Type 0 where
  pub states : List (List ℕ)
  pub matrix : List ℕ

abbrev pub works : List (List ℕ) → List ℕ → Works
works s m = record { states = s; matrix = m }

-- what one lane works on, and a step of it
abbrev pub work_of : ℕ → Works → Work
work_of i w = work (get_or w.states i []) w.matrix

abbrev pub put_work : ℕ → Work → Works → Works
put_work i v w = works (set w.states i v.state) v.matrix

abbrev pub in_lane : ℕ → (Work → Work) → Works → Works
in_lane i f w = put_work i (f (work_of i w)) w

-- the first row of a lane
abbrev pub lane_start : ℕ → ℕ → ℕ
lane_start n i = i * n
