-- What a run of several lanes leaves.
use Rattle.std.specs.Prelude.{◌≡◌, ℕ, ◌+◌, ◌*◌, ◌/◌, ◌≤◌, List}
use Rattle.lists.specs.Zip.{cleared}
use Rattle.settings.specs.Settings.{settings}
use Rattle.settings.specs.Sizes.{matrix_words}
use Rattle.settings.specs.declared.Parameters.{Parameters}
use Rattle.settings.specs.declared.Lengths.{Lengths}
use Rattle.input.specs.Input.{Input, lengths}
use Rattle.derivation.specs.Cost.{reduced_cost}
use Rattle.plain_runs.specs.declared.Calls.{Calls}
use Rattle.lanes.specs.Room.{Room}
use Rattle.lanes_derivation.specs.LanesCosts.{lane_blocks}
use Rattle.lanes_derivation.specs.LanesDerivation.{lanes_end, final_states}

-- what it asks for: the lengths and T are within the limits, and the lanes have room, with all rows
pub record Fits (l : Lengths) (p : Parameters) (lanes words : ℕ) : Type 0 where
  pub password : l.password ≤ 1024
  pub salt : l.salt ≤ 64
  pub time : p.time ≤ 255
  pub lanes_most : lanes ≤ 8
  pub shared : lanes * (p.rows / lanes) ≡ p.rows
  pub room : Room p.columns lanes (p.rows / lanes) words

-- the matrix before it; the states and the matrix after it
pub record LanesRun (p : Parameters) (lanes : ℕ) (x : Input) (matrix : List ℕ) (states' : List (List ℕ)) (matrix' : List ℕ) (r : Calls) : Type 0 where
  pub full : r.full ≡ lanes * lane_blocks (lengths x) + lanes
  pub reduced : r.reduced ≡ reduced_cost (settings p)
  pub states_are : states' ≡ final_states (settings p) lanes (lanes_end (settings p) lanes x matrix)
  pub matrix_is : matrix' ≡ cleared (matrix_words (settings p)) matrix
