-- What a run of the sponge over the matrix to the last visit leaves.
use Rattle.std.specs.Prelude.{◌≡◌, ℕ, ◌<◌, List}
use Rattle.lists.specs.Zip.{put_into}
use Rattle.settings.specs.Settings.{settings}
use Rattle.settings.specs.declared.Parameters.{Parameters}
use Rattle.input.specs.Input.{Input, lengths, input_blocks}
use Rattle.columns.specs.Columns.{work}
use Rattle.visits.specs.Visits.{walk}
use Rattle.derivation.specs.Cost.{reduced_cost}
use Rattle.derivation.specs.Derivation.{walk_end, end_record}
use Rattle.runs.specs.declared.Ran.{Ran}

-- the matrix and the record before it; the state, the matrix and the record after it
pub record Run (p : Parameters) (x : Input) (matrix visited state' matrix' visited' : List ℕ) (r : Ran) : Type 0 where
  pub full : r.full ≡ input_blocks (lengths x)
  pub reduced : r.reduced ≡ reduced_cost (settings p)
  pub row0_lt : r.row0.0 < p.rows
  pub row1_lt : r.row1.0 < p.rows
  pub walked : walk (work state' matrix') r.row0.0 r.row1.0 ≡ walk_end (settings p) x matrix
  pub noted : visited' ≡ put_into visited (end_record (settings p) x matrix)
