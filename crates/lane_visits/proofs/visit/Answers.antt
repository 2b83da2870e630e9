-- The rows that are picked, then their columns.
use Rattle.std.proofs.Common.{◌≡◌, ap, ◌∙◌, ◌*◌}
use Rattle.settings.specs.Settings.{settings}
use Rattle.columns.specs.Columns.{Work, work}
use Rattle.columns.specs.declared.Rows.{Rows}
use Rattle.columns.proofs.RowLaws.{within}
use Rattle.lanes.specs.LaneVisits.{lane_walk, picked_lane_rows, visited_row, visit_of}
use Rattle.lane_visits.proofs.visit.Goals as goal

pub visit_row-requires : goal.visit_row-requires
unfolding picked_lane_rows
visit_row-requires c =
    let a = c.args in
    let picked = c.pick_rows-rows.ensures in
    let prev0 : c.pick_rows-rows.result.prev0.0 ≡ a.lane.now.prev = ap (λ (q : Rows). q.prev0.0) picked.0 in
    let prev1 : c.pick_rows-rows.result.prev1.0 ≡ a.lane.now.prev = ap (λ (q : Rows). q.prev1.0) picked.0 in
    within (a.turn.lanes * a.turn.rows) a.p.columns _ c.requires.0.room _ picked.1 picked.2 (rw prev0 c.requires.1) (rw prev1 c.requires.1)

pub returns : goal.returns
unfolding visit_of
returns c =
    let a = c.args in
    let picked = c.pick_rows-rows.ensures in
    let w = work a.lane.now.state a.m.now in (
      c.visit_row.ensures.0,
      picked.1,
      ap (λ (v : Work). lane_walk v c.pick_rows-rows.result.row0.0) c.visit_row.ensures.1
          ∙ ap (λ (r : Rows). lane_walk (visited_row (settings a.p) r w) r.row0.0) picked.0,
    )
