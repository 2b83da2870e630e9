-- What a run to the last cell leaves where the key alone is wanted.
use Rattle.std.specs.Prelude.{◌≡◌, ℕ, ◌+◌, List}
use Rattle.lists.specs.Zip.{cleared}
use Rattle.settings.specs.Settings.{settings}
use Rattle.settings.specs.Sizes.{matrix_words}
use Rattle.settings.specs.declared.Parameters.{Parameters}
use Rattle.input.specs.Input.{Input, lengths, input_blocks}
use Rattle.derivation.specs.Cost.{reduced_cost}
use Rattle.derivation.specs.Derivation.{walk_end, final_state}
use Rattle.plain_runs.specs.declared.Calls.{Calls}

-- the matrix before it; the state that the key is squeezed from, and the matrix after it
pub record PlainRun (p : Parameters) (x : Input) (matrix state' matrix' : List ℕ) (r : Calls) : Type 0 where
  pub full : r.full ≡ input_blocks (lengths x) + 1
  pub reduced : r.reduced ≡ reduced_cost (settings p)
  pub state_is : state' ≡ final_state (settings p) (walk_end (settings p) x matrix)
  pub matrix_is : matrix' ≡ cleared (matrix_words (settings p)) matrix
