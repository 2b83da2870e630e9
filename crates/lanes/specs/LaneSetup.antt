-- Setup of p lanes with n rows each: between two meetings the lanes run in turn, from lane 0.
use Rattle.std.specs.Prelude.{ℕ, ◌+◌, ◌-◌, ◌%◌}
use Rattle.lists.specs.Loop.{loop}
use Rattle.settings.specs.Settings.{Settings}
use Rattle.setup.specs.Setup.{first_rows, setup_rows}
use Rattle.lanes.specs.Lanes.{Works, in_lane, lane_start}
use Rattle.lanes.specs.Meetings.{first_row, rows_in}

unfoldable pub lane_first_rows : Settings → ℕ → ℕ → Works → Works
lane_first_rows S n i = in_lane i (first_rows S (lane_start n i))

-- lane i fills `count` rows from row 3 + k on, after t meetings: the rows that it revisits are those of lane (i + t) mod p
unfoldable pub lane_setup : Settings → ℕ → ℕ → ℕ → ℕ → ℕ → ℕ → Works → Works
lane_setup S p n t k count i = in_lane i (setup_rows S (lane_start n i) (lane_start n ((i + t) % p)) k count)

unfoldable pub setup_in_turn : Settings → ℕ → ℕ → ℕ → ℕ → ℕ → Works → Works
setup_in_turn S p n t k count w = loop (lane_setup S p n t k count) p w

-- every interval has a row, so that there are fewer than n; those that begin after the last row have none
unfoldable pub setup_lanes : Settings → ℕ → ℕ → Works → Works
setup_lanes S p n w = loop (λ t. setup_in_turn S p n t (first_row t - 3) (rows_in n t)) n (loop (lane_first_rows S n) p w)
