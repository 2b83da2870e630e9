-- A derivation with p lanes (request 111): each lane absorbs an input of its own, together they fill the matrix and visit its rows, each
-- absorbs a last cell, and their keys are XORed.
use Rattle.std.specs.Prelude.{ℕ, ◌+◌, ◌-◌, ◌/◌, List, [], ◌∷◌, ◌++◌, get_or, set, replicate}
use Rattle.lists.specs.Loop.{loop}
use Rattle.lists.specs.Zip.{tabulate}
use Rattle.profile.specs.Profile.{start}
use Rattle.settings.specs.Settings.{Settings}
use Rattle.input.specs.Input.{Input, numbers, absorb_input}
use Rattle.columns.specs.Columns.{work}
use Rattle.last_cell.specs.LastCell.{last_absorbed}
use Rattle.lanes.specs.Lanes.{works, lane_start}
use Rattle.lanes.specs.LaneSetup.{setup_lanes}
use Rattle.lanes.specs.LaneVisits.{Lanes, lanes, wander_lanes}
use Rattle.lane_keys.specs.LaneKeys.{keys_xored}

-- the rows that each lane has
abbrev pub rows_each : Settings → ℕ → ℕ
rows_each S p = S.rows / p

-- the numbers of lane i's input: those that one sponge has, then p and i
abbrev pub lane_numbers : Input → Settings → ℕ → ℕ → List ℕ
lane_numbers x S p i = numbers x S ++ (p ∷ i ∷ [])

-- a lane absorbs its input, and the states once all have, from lane 0 on
abbrev pub absorb_lane : Settings → ℕ → Input → ℕ → List (List ℕ) → List (List ℕ)
absorb_lane S p x i states = set states i (absorb_input S.addition.sum x.password x.salt (lane_numbers x S p i) (get_or states i []))

unfoldable pub input_states : Settings → ℕ → Input → List (List ℕ)
input_states S p x = loop (absorb_lane S p x) p (replicate p start)

-- what Setup leaves: the first visit of a lane has the lane's last row for its previous one
unfoldable pub lanes_setup_end : Settings → ℕ → Input → List ℕ → Lanes
lanes_setup_end S p x m =
    let n = rows_each S p in
    lanes (setup_lanes S p n (works (input_states S p x) m)) (tabulate p (λ i. lane_start n i + (n - 1)))

-- after the last visits, for an input and what the matrix held before
unfoldable pub lanes_end : Settings → ℕ → Input → List ℕ → Lanes
lanes_end S p x m = wander_lanes S p (rows_each S p) (lanes_setup_end S p x m)

-- a lane absorbs the first cell of the row that it visited last, and the states once all have
abbrev pub close_lane : Settings → Lanes → ℕ → List (List ℕ) → List (List ℕ)
close_lane S l i states = set states i (last_absorbed S (get_or l.prevs i 0) (work (get_or states i []) l.done.matrix))

unfoldable pub final_states : Settings → ℕ → Lanes → List (List ℕ)
final_states S p l = loop (close_lane S l) p l.done.states

unfoldable pub lanes_key_of : Settings → ℕ → Input → List ℕ → List ℕ
lanes_key_of S p x m = keys_xored S.addition.sum p x.key_length (final_states S p (lanes_end S p x m))
