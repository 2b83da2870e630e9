-- Its cells are those of the definition, and so is its one write.
use Rattle.std.proofs.Common.{◌≡◌, ap, ◌∙◌, ℕ, List, rules}
use Rattle.std.specs.Int.Bits.{bit_xor}
use Rattle.lists.specs.Zip.{zip_at}
use Rattle.mixer.specs.Mixers.{sum_of}
use Rattle.cell_sums.specs.CellSum.{cell_sum}
use Rattle.cell_sums.proofs.Sums.{length_sum}
use Rattle.sponge.specs.Sponge.{absorb, rand}
use Rattle.settings.specs.Settings.{settings}
use Rattle.places.specs.Places.{place}
use Rattle.matrix.specs.Cells.{cell_from}
use Rattle.columns.specs.Columns.{work, picked_by, picks}
use Rattle.columns.specs.declared.Picks.{Picks}
use Rattle.columns.proofs.RowLaws.{row0_place, row1_place, prev0_place}
use Rattle.lane_columns.specs.LaneColumns.{lane_cells, lane_column}
use Rattle.lane_columns.proofs.lane_column.Goals as goal

pub returns : goal.returns
unfolding lane_column lane_cells picks
returns c r e =
    let a = c.args in
    let C = a.p.columns in
    let m = a.m.now in
    let from : ℕ → List ℕ = λ n. cell_from n m in
    let picked = c.pick_columns-picks in
    let col0 : picked.result.col1.0 ≡ picked_by (settings a.p) 3 C a.s.now = ap (λ (q : Picks). q.col1.0) picked.ensures.is in
    let row0 = c.cell-row0 in
    let prev0 = c.cell-prev0 in
    let row1 = c.cell-row1 in
    let told =
    c.duplex_each.ensures (cell_sum (cell_sum row0.result.now prev0.result.now) row1.result.now)
    (length_sum 12 _ _ (length_sum 12 _ _ row0.ensures.result_len)) (λ j r h e. search rules) in
    let at0 = row0.ensures.result_value ∙ ap from (row0_place C r e a.col.0) in
    let at1 = prev0.ensures.result_value ∙ ap from (prev0_place C r e _ ∙ ap (place C r.prev0.0) col0) in
    let at2 = row1.ensures.result_value ∙ ap from (row1_place C r e a.col.0) in
    let state = told ∙ (λ i. absorb (sum_of a.p.mixer) a.p.rounds (cell_sum (cell_sum (at0 i) (at1 i)) (at2 i)) a.s.now) in
    let at = c.cell_start-at.ensures ∙ row0_place C r e a.col.0 in
    let out = c.output-rand.ensures ∙ ap rand state in
    let written = c.xor_cell.ensures ∙ (λ i. zip_at bit_xor (at i) m (out i)) in
    λ i. work (state i) (written i)
