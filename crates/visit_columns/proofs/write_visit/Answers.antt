-- `write_visit` meets its contract: the two XORs in their order. Assumes nothing.
use mathlib.Core.Path.{sym, ap, ◌∙◌}
use Prim.Native.Nat.{ℕ}
use mathlib.Core.List.{List}
use lib.Bits.{bit_xor}
use Rattle.lists.specs.Zip.{zip_at, xor_into}
use Rattle.sponge.specs.Sponge.{rand}
use Rattle.sponge.proofs.Output.{length-rand}
use Rattle.places.specs.Places.{place}
use Rattle.matrix.specs.Cells.{cell_from, rotated}
use Rattle.matrix.proofs.CellLaws.{put-xored}
use Rattle.columns.specs.Columns.{visit_written}
use Rattle.columns.proofs.RowLaws.{row0_place, row1_place}
use Rattle.visit_columns.proofs.write_visit.Goals as goal

pub returns-then-p-ne-USUAL_ROTATION : goal.returns-then-p-ne-USUAL_ROTATION
unfolding visit_written
returns-then-p-ne-USUAL_ROTATION c r e =
    let a = c.args in
    let C = a.p.columns in
    let m = a.m.now in
    let out = rand a.s.now in
    let turned = rotated a.p.rotation out in
    let at0 = c.cell_start-a.ensures ∙ row0_place C r e a.col.0 in
    let at1 = c.cell_start-b.ensures ∙ row1_place C r e a.col.0 in
    c.write_rotated.ensures
    ∙ (λ i. zip_at bit_xor (at1 i) (zip_at (λ (x y : ℕ). y) (at0 i) m (xor_into (cell_from (at0 i) m) out)) turned)
    ∙ ap (λ (l : List ℕ). zip_at bit_xor (place C r.row1.0 a.col.0) l turned) (put-xored (place C r.row0.0 a.col.0) m out (length-rand a.s.now))

pub returns : goal.returns
unfolding visit_written
returns c r e =
    let a = c.args in
    let C = a.p.columns in
    let at0 = c.cell_start-a.ensures ∙ row0_place C r e a.col.0 in
    let at1 = c.cell_start-b.ensures ∙ row1_place C r e a.col.0 in
    let usual = sym c.if-p-ne-USUAL_ROTATION.false in
    let out = c.output-rand.ensures in
    let first = c.xor_cell.ensures ∙ (λ i. zip_at bit_xor (at0 i) a.m.now (out i)) in
    c.xor_turned.ensures ∙ (λ i. zip_at bit_xor (at1 i) (first i) (rotated (usual i) (out i)))
