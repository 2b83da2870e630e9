-- The visits of p lanes with n rows each: between two meetings the lanes run in turn, from lane 0.
use Rattle.std.specs.Prelude.{ℕ, suc, ◌+◌, ◌*◌, ◌/◌, ◌%◌, List, get_or, set}
use Rattle.lists.specs.Loop.{loop}
use Rattle.settings.specs.Settings.{Settings}
use Rattle.columns.specs.Columns.{Work, picked_by}
use Rattle.columns.specs.declared.Rows.{Rows}
use Rattle.lane_columns.specs.LaneColumns.{lane_rows, lane_column}
use Rattle.lanes.specs.Lanes.{Works, work_of, put_work, lane_start}
use Rattle.lanes.specs.Meetings.{visits_in}

-- ---- one lane

-- what it goes on with: its work, and the row of the matrix that it visited last
pub record LaneWalk : Type 0 where
  pub done : Work
  pub prev0 : ℕ

abbrev pub lane_walk : Work → ℕ → LaneWalk
lane_walk w prev0 = record { done = w; prev0 = prev0 }

-- row x of the half of a lane's rows that is the first where t is even, and the second where it is odd
abbrev pub half_row : ℕ → ℕ → ℕ → ℕ → ℕ
half_row n i t x = lane_start n i + (t % 2 * (n / 2) + x)

-- the rows that a state picks in interval t: one of the lane's own in one half, and one of any lane in the other half. The halves change
-- places at each meeting
unfoldable pub picked_lane_rows : Settings → ℕ → ℕ → ℕ → ℕ → List ℕ → ℕ → Rows
picked_lane_rows S p n t i s prev0 =
    lane_rows (half_row n i t (picked_by S 0 (n / 2) s)) (half_row n (picked_by S 2 p s) (suc t) (picked_by S 1 (n / 2) s)) prev0

-- the columns of a visit
unfoldable pub visited_row : Settings → Rows → Work → Work
visited_row S r w = loop (lane_column S r) S.columns w

-- a visit of lane i in interval t, and so many of them
unfoldable pub visit_of : Settings → ℕ → ℕ → ℕ → ℕ → LaneWalk → LaneWalk
visit_of S p n t i w =
    let r = picked_lane_rows S p n t i w.done.state w.prev0 in
    lane_walk (visited_row S r w.done) r.row0.0

unfoldable pub visits_of : Settings → ℕ → ℕ → ℕ → ℕ → ℕ → LaneWalk → LaneWalk
visits_of S p n t i count w = loop (λ k. visit_of S p n t i) count w

-- ---- all lanes

-- what stands between visits: the works, and the row that each lane visited last
pub record Lanes : Type 0 where
  pub done : Works
  pub prevs : List ℕ

abbrev pub lanes : Works → List ℕ → Lanes
lanes w prevs = record { done = w; prevs = prevs }

-- what lane i goes on with, and a step of it
abbrev pub walk_of : ℕ → Lanes → LaneWalk
walk_of i l = lane_walk (work_of i l.done) (get_or l.prevs i 0)

abbrev pub put : ℕ → LaneWalk → Lanes → Lanes
put i w l = lanes (put_work i w.done l.done) (set l.prevs i w.prev0)

abbrev pub step : (ℕ → LaneWalk → LaneWalk) → ℕ → Lanes → Lanes
step f i l = put i (f i (walk_of i l)) l

-- interval t, in which each lane has `count` visits
unfoldable pub visits_in_turn : Settings → ℕ → ℕ → ℕ → ℕ → Lanes → Lanes
visits_in_turn S p n t count l = loop (step (λ i. visits_of S p n t i count)) p l

-- every interval has a visit, so that there are no more than n · T; those that begin after the last visit have none
unfoldable pub wander_lanes : Settings → ℕ → ℕ → Lanes → Lanes
wander_lanes S p n l = loop (λ t. visits_in_turn S p n t (visits_in S n t)) (n * S.time) l
