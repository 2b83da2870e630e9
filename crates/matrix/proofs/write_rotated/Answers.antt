-- The two writes, whose order does not matter. Assumes nothing.
use Rattle.std.proofs.Common.{List, ℕ, take, drop, ap, ap₂, ◌∙◌}
use native.Mathlib.Nat.{add-sub_cancel_left}
use Rattle.lists.specs.Zip.{zip_at, xor_into}
use Rattle.rate.specs.Rate.{rand}
use Rattle.rate.proofs.Words.{length-rand}
use Rattle.matrix.specs.Cells.{cell_from, rotated}
use Rattle.matrix.proofs.CellLaws.{length-rotated, either_order}
use Rattle.matrix.proofs.write_rotated.Goals as goal

pub returns : goal.returns
unfolding cell_from
returns c =
    let a = c.args in
    let s = a.s.now in
    let out = c.output-rand.ensures in
    let turned = c.xor_rotated.ensures in
    let words =
    c.xored-words.ensures ∙ ap (λ (n : ℕ). xor_into (take n (drop a.from c.xor_rotated.new.m)) c.output-rand.result) (add-sub_cancel_left a.from 12)
    ∙ ap₂ (λ (l r : List ℕ). xor_into (take 12 (drop a.from l)) r) turned out in
    c.put_cell.ensures ∙ (λ i. zip_at (λ (x y : ℕ). y) a.to (turned i) (words i))
    ∙ either_order a.from a.to a.back a.m.now (rand s) (rotated a.omega (rand s)) (length-rand s) (length-rotated a.omega (rand s)) c.requires.fact
