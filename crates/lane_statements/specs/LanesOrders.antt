-- A derivation whose lanes make their visits between two meetings in any order, and whose keys arrive in any order.
use Rattle.std.specs.Prelude.{ℕ, List, replicate}
use Rattle.settings.specs.Settings.{Settings}
use Rattle.input.specs.Input.{Input}
use Rattle.lanes.specs.LaneVisits.{Lanes}
use Rattle.lanes.specs.Orders.{run, wander_by}
use Rattle.lane_keys.specs.LaneKeys.{arrives}
use Rattle.lanes_derivation.specs.LanesDerivation.{rows_each, lanes_setup_end, final_states}

-- `orders t` is that of the visits of interval t, and `arrival` that of the keys
unfoldable pub lanes_end_by : Settings → ℕ → Input → List ℕ → (ℕ → List ℕ) → Lanes
lanes_end_by S p x m orders = wander_by S p (rows_each S p) orders (lanes_setup_end S p x m)

unfoldable pub lanes_key_by : Settings → ℕ → Input → List ℕ → (ℕ → List ℕ) → List ℕ → List ℕ
lanes_key_by S p x m orders arrival =
    run (arrives S.addition.sum x.key_length (final_states S p (lanes_end_by S p x m orders))) arrival (replicate x.key_length 0)
