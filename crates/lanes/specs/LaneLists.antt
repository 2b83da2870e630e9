-- The code's list of lanes: its states, the rows that were visited last, and what one lane and all of them work on.
use Rattle.std.specs.Prelude.{ℕ, ◌*◌, List, length, map}
use Rattle.columns.specs.Columns.{work}
use Rattle.lanes.specs.Lanes.{Works, works}
use Rattle.lanes.specs.LaneVisits.{LaneWalk, Lanes, lane_walk, lanes}
use Rattle.lanes.specs.Room.{Room, Below}
use Rattle.lanes.specs.declared.Lane.{Lane}

abbrev pub states_of : List Lane → List (List ℕ)
states_of = map (λ l. l.state)

abbrev pub prevs_of : List Lane → List ℕ
prevs_of = map (λ l. l.prev)

-- over a matrix
abbrev pub walk : Lane → List ℕ → LaneWalk
walk l m = lane_walk (work l.state m) l.prev

abbrev pub works_of : List Lane → List ℕ → Works
works_of l m = works (states_of l) m

abbrev pub lanes_of : List Lane → List ℕ → Lanes
lanes_of l m = lanes (works_of l m) (prevs_of l)

-- what their visits ask for, with n rows of C columns each in a matrix of so many words: there is room for them, and each visited a row of
-- theirs last
pub record Ready (C n words : ℕ) (l : List Lane) : Type 0 where
  pub room : Room C (length l) n words
  pub rows : Below (length l * n) (prevs_of l)
