-- The words of the state are those of the output, and every row is one of a lane.
use Rattle.std.proofs.Common.{◌≡◌, ◌∙◌, ◌*◌, ◌/◌, ◌%◌, add-one, arith}
use Rattle.settings.specs.Settings.{settings}
use Rattle.columns.proofs.RowLaws.{row_before}
use Rattle.picks.proofs.Words.{picked_by_lem}
use Rattle.lane_columns.specs.LaneColumns.{lane_rows}
use Rattle.lanes.specs.LaneVisits.{half_row, picked_lane_rows}
use Rattle.lane_visits.proofs.pick_rows.Goals as goal

pub returns : goal.returns
unfolding picked_lane_rows
returns c =
    let a = c.args in
    let S = settings a.p in
    let s = a.lane.now.state in
    let n = a.turn.rows in
    let p = a.turn.lanes in
    let ω = a.p.rotation in
    let own = c.half_row.ensures in
    let others = c.half_row-2.ensures in
    let at0 : 0 ≡ 0 * ω % 12 = omega arith in
    let at1 : c.place_after-second.result ≡ 1 * ω % 12 = c.place_after-second.ensures.value ∙ omega arith in
    let at2 : c.place_after-third.result ≡ 2 * ω % 12 = c.place_after-third.ensures.value ∙ omega arith in
    let x0 = picked_by_lem S 0 (n / 2) s at0 c.picked.ensures.value in
    let x1 = picked_by_lem S 1 (n / 2) s at1 c.picked-2.ensures.value in
    let j = picked_by_lem S 2 p s at2 c.picked-other.ensures.value in
    let row0 = own.0 ∙ (λ i. half_row n a.turn.i a.turn.t (x0 i)) in
    let row1 = others.0 ∙ (λ i. half_row n (j i) (add-one a.turn.t i) (x1 i)) in (
      λ i. lane_rows (row0 i) (row1 i) a.lane.now.prev,
      omega (arith, own.2, row_before a.turn.i p n (omega arith)),
      omega (arith, others.2, row_before c.picked-other.result p n c.picked-other.ensures.upper_bound),
    )
