-- `duplex_setup` meets its contract: its cells are those of the definition. Assumes nothing.
use mathlib.Core.Path.{ap, ◌∙◌}
use Prim.Native.Nat.{ℕ}
use mathlib.Core.List.{List}
use Rattle.mixer.specs.Mixers.{sum_of}
use Rattle.std.proofs.Common.{rules}
use Rattle.cell_sums.specs.CellSum.{cell_sum}
use Rattle.cell_sums.proofs.Sums.{length_sum}
use Rattle.sponge.specs.Sponge.{absorb}
use Rattle.matrix.specs.Cells.{cell_from}
use Rattle.columns.specs.Columns.{setup_cells}
use Rattle.columns.proofs.RowLaws.{row1_place, prev0_place, prev1_place}
use Rattle.setup_columns.proofs.duplex_setup.Goals as goal

pub returns : goal.returns
unfolding setup_cells
returns c r e =
    let a = c.args in
    let C = a.p.columns in
    let from : ℕ → List ℕ = λ n. cell_from n a.m.now in
    let row1 = c.cell-row1 in
    let prev0 = c.cell-prev0 in
    let prev1 = c.cell-prev1 in
    let told =
    c.duplex_each.ensures (cell_sum (cell_sum row1.result.now prev0.result.now) prev1.result.now)
    (length_sum 12 _ _ (length_sum 12 _ _ row1.ensures.result_len)) (λ j r h e. search rules) in
    let at1 = row1.ensures.result_value ∙ ap from (row1_place C r e a.col.0) in
    let at0 = prev0.ensures.result_value ∙ ap from (prev0_place C r e a.col.0) in
    let at2 = prev1.ensures.result_value ∙ ap from (prev1_place C r e a.col.0) in
    told ∙ (λ i. absorb (sum_of a.p.mixer) a.p.rounds (cell_sum (cell_sum (at1 i) (at0 i)) (at2 i)) a.s.now)
