-- `write_setup` meets its contract: the two writes in their order. The place of the first is said in full, so that a refusal names the
-- column that differs. Assumes nothing.
use mathlib.Core.Path.{◌≡◌, sym, ap, ◌∙◌}
use mathlib.Core.Logic.{inr}
use Prim.Native.Nat.{ℕ}
use native.Mathlib.Omega.{arith}
use lib.Bits.{bit_xor}
use Rattle.lists.specs.Zip.{zip_at, xor_into}
use Rattle.sponge.specs.Sponge.{rand}
use Rattle.places.specs.Places.{place, cell_start}
use Rattle.matrix.specs.Cells.{cell_from, rotated}
use Rattle.columns.specs.Columns.{setup_written}
use Rattle.columns.proofs.RowLaws.{apart_cells, row0_place, row1_place, prev0_place}
use Rattle.setup_columns.proofs.write_setup.Goals as goal

pub write_rotated-requires-clause-fact : goal.write_rotated-requires-clause-fact
write_rotated-requires-clause-fact c =
    let pre = c.requires in
    let back = c.cell_start-back.ensures in
    inr (
      apart_cells pre.3.prev0 pre.0 pre.0 back c.cell_start-from.ensures,
      apart_cells pre.3.row0 pre.0 (omega (arith, pre.1)) back c.cell_start-to.ensures,
    )

pub returns-then-p-ne-USUAL_ROTATION : goal.returns-then-p-ne-USUAL_ROTATION
unfolding setup_written
returns-then-p-ne-USUAL_ROTATION c r e =
    let start = c in
    let args = start.args in
    let m = args.m.now in
    let out = rand args.s.now in
    let C = args.p.columns in
    let placed : c.cell_start-to.result ≡ cell_start args.rows.row0 args.mirror.0 = c.cell_start-to.ensures in
    let to = placed ∙ row0_place C r e args.mirror.0 ∙ ap (place C r.row0.0) start.requires.1 in
    let back = c.cell_start-back.ensures ∙ row1_place C r e args.col.0 in
    let from = c.cell_start-from.ensures ∙ prev0_place C r e args.col.0 in
    c.write_rotated.ensures
    ∙ (λ i. zip_at bit_xor (back i) (zip_at (λ (x y : ℕ). y) (to i) m (xor_into (cell_from (from i) m) out)) (rotated args.p.rotation out))

pub returns : goal.returns
unfolding setup_written
returns c r e =
    let start = c in
    let args = start.args in
    let m = args.m.now in
    let C = args.p.columns in
    let placed : c.cell_start-to.result ≡ cell_start args.rows.row0 args.mirror.0 = c.cell_start-to.ensures in
    let to = placed ∙ row0_place C r e args.mirror.0 ∙ ap (place C r.row0.0) start.requires.1 in
    let back = c.cell_start-back.ensures ∙ row1_place C r e args.col.0 in
    let out = c.output-rand.ensures in
    let read = c.cell.ensures.result_value ∙ ap (λ (n : ℕ). cell_from n m) (prev0_place C r e args.col.0) in
    let words = c.xored-words.ensures ∙ (λ i. xor_into (read i) (out i)) in
    let put = c.put_cell.ensures ∙ (λ i. zip_at (λ (x y : ℕ). y) (to i) m (words i)) in
    let usual = sym c.if-p-ne-USUAL_ROTATION.false in
    c.xor_turned.ensures ∙ (λ i. zip_at bit_xor (back i) (put i) (rotated (usual i) (out i)))
