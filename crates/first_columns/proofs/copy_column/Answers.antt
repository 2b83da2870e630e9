-- `copy_column` meets its contract: the duplex of the cell, then the write. What is written where is said in full, so that a refusal names
-- the row or column that differs. Assumes nothing.
use mathlib.Core.Path.{◌≡◌, ap, ◌∙◌}
use Prim.Native.Nat.{ℕ}
use mathlib.Core.List.{List}
use Rattle.lists.specs.Zip.{zip_at, xor_into}
use Rattle.sponge.specs.Sponge.{rand}
use Rattle.settings.specs.Settings.{settings}
use Rattle.places.specs.Places.{place, cell_start}
use Rattle.places.proofs.PlaceLaws.{start-place}
use Rattle.matrix.specs.Cells.{cell_from}
use Rattle.columns.specs.Columns.{work, duplexed, copy_column}
use Rattle.first_columns.proofs.copy_column.Goals as goal

pub returns : goal.returns
unfolding copy_column
returns c q e r f =
    let start = c in
    let args = start.args in
    let m = args.m.now in
    let C = args.p.columns in
    let from = ap (λ (n : ℕ). cell_from n m) (start-place C q args.prev0 e args.col.0) in
    let placed : c.cell_start-to.result ≡ cell_start args.row0 args.mirror.0 = c.cell_start-to.ensures in
    let to = placed ∙ start-place C r args.row0 f args.mirror.0 ∙ ap (place C r) start.requires.1 in
    let call = c.duplex.ensures ∙ ap (λ (words : List ℕ). duplexed (settings args.p) words args.s.now) (c.cell.ensures.result_value ∙ from) in
    let out = c.output-rand.ensures ∙ ap rand call in
    let again : c.cell-2.result.now ≡ cell_from (cell_start args.prev0 args.col.0) m = c.cell-2.ensures.result_value in
    let read = again ∙ from in
    let words = c.xored-words.ensures ∙ (λ i. xor_into (read i) (out i)) in
    let put = c.put_cell.ensures ∙ (λ i. zip_at (λ (x y : ℕ). y) (to i) m (words i)) in
    λ i. work (call i) (put i)
