-- A call that no check refuses, which takes a key of the lanes.
use Rattle.std.specs.Prelude.{◌≡◌, ℕ, ◌≤◌, List, length, replicate}
use Rattle.lists.specs.Zip.{put_into, cleared}
use Rattle.profile.specs.Profile.{start}
use Rattle.settings.specs.Settings.{settings}
use Rattle.settings.specs.Sizes.{matrix_words}
use Rattle.settings.specs.declared.Parameters.{Parameters}
use Rattle.settings.specs.declared.Lengths.{Lengths}
use Rattle.input.specs.Input.{Input, lengths}
use Rattle.key.specs.Key.{same_bytes}
use Rattle.derivation.specs.Cost.{reduced_cost}
use Rattle.derivation.specs.Answers.{spent_on, costs_of}
use Rattle.checking.specs.declared.Checked.{Checked}
use Rattle.lanes_derivation.specs.LanesCosts.{lanes_full_cost}
use Rattle.lanes_derivation.specs.LanesDerivation.{lanes_key_of}
use Rattle.lane_runs.specs.LaneRuns.{Fits}

-- every lane is at its start
pub record Begins (l : Lengths) (p : Parameters) (lanes words : ℕ) (states : List (List ℕ)) : Type 0 where
  pub fits : Fits l p lanes words
  pub key_least : 1 ≤ l.key
  pub key_most : l.key ≤ 1024
  pub rounds_most : p.rounds ≤ 12
  pub states_are : states ≡ replicate lanes start

-- a key of as many bytes as the input says: in the lent key, and compared with a stored one that is as long
pub record Takes (p : Parameters) (lanes : ℕ) (x : Input) (key stored matrix key' matrix' : List ℕ) (r : Checked) : Type 0 where
  pub answer : costs_of r.spent ≡ spent_on (settings p) (lanes_full_cost lanes (lengths x)) (reduced_cost (settings p))
  pub key_is : key' ≡ put_into key (lanes_key_of (settings p) lanes x matrix)
  pub same_is : length stored ≡ x.key_length → r.same ≡ same_bytes stored (lanes_key_of (settings p) lanes x matrix)
  pub matrix_is : matrix' ≡ cleared (matrix_words (settings p)) matrix
