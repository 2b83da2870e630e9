-- A shape more each turn. Assumes nothing.
use Rattle.std.proofs.Common.{◌≡◌, ℕ, ◌+◌, ◌-◌, ◌*◌, ◌≤◌, sym, ap, ◌∙◌, arith}
use Rattle.choice.specs.Choice.{cells, rows_for, shape_for, better, best_of}
use Rattle.choice.specs.declared.Shape.{Shape}
use Rattle.choice.proofs.BestLaws.{tried-cells_most, best_cells_most, best_none, best_more}
use Rattle.shapes.proofs.best.Goals as goal

-- the best of m columns, of which the last, the n-th, is the one that was tried
turn : (U n m : ℕ) {best tried : Shape} {rows : ℕ} → 1 ≤ n → m ≡ n → best ≡ best_of U (n - 1) → rows ≡ rows_for U n
    → tried ≡ better best (record { rows = rows; columns = n }) → tried ≡ best_of U m
turn U n m h e before found is =
    let last : n - 1 + 1 ≡ n = omega arith in
    is ∙ (λ i. better (before i) (record { rows = found i; columns = n })) ∙ ap (λ (k : ℕ). better (best_of U (n - 1)) (shape_for U k)) (sym last)
    ∙ sym (best_more U (n - 1)) ∙ ap (best_of U) (last ∙ sym e)

pub loop-columns-init : goal.loop-columns-init
loop-columns-init c = (omega arith, sym (best_none c.args.limit))

pub better-best-requires : goal.better-best-requires
better-best-requires c =
    let U = c.args.limit in
    let n = c.loop-columns.columns in
    let rows : _ ≡ rows_for U n = c.rows_for.ensures in
    let best = ap cells c.loop-columns.invariant.1 in
    let tried = ap (λ (r : ℕ). r * n) rows in
    (omega (arith, best, best_cells_most U (n - 1)), omega (arith, tried, tried-cells_most U n (omega arith)))

pub loop-columns-preserved : goal.loop-columns-preserved
loop-columns-preserved c =
    let at = c.loop-columns in
    (omega arith, turn c.args.limit at.columns _ (omega arith) (omega arith) at.invariant.1 c.rows_for.ensures c.better-best.ensures)

pub returns : goal.returns
returns c = c.loop-columns.invariant.1 ∙ ap (best_of c.args.limit) (omega arith)

pub returns-2 : goal.returns-2
returns-2 c =
    let at = c.loop-columns in
    turn c.args.limit at.columns c.args.n (omega arith) (omega arith) at.invariant.1 c.rows_for.ensures c.better-best.ensures
