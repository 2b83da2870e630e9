-- `visit_row` meets its contract. The loop's invariant: work and record are those of the first col columns, each a reduced call, and p are the
-- picks of the next. Assumes nothing.
use mathlib.Core.Path.{◌≡◌, refl, sym, ap, ◌∙◌}
use Prim.Native.Nat.{ℕ, ◌+◌}
use native.Mathlib.Omega.{arith}
use lib.ListN.{set}
use Rattle.lists.proofs.ZipLaws.{zip_at_none}
use Rattle.lists.proofs.LoopLaws.{loop_none, loop_more}
use Rattle.packing.specs.Packing.{packed}
use Rattle.settings.specs.Settings.{settings}
use Rattle.columns.specs.declared.Picks.{Picks}
use Rattle.columns.specs.Columns.{Work, work, picks, visit_column}
use Rattle.columns.proofs.ColumnSteps.{visit_column_done}
use Rattle.visits.specs.Visits.{visit_columns, column_picks}
use Rattle.visits.specs.Encoding.{encode_picks}
use Rattle.visits.proofs.Recording.{column_noted}
use Rattle.visits.proofs.visit_row.Goals as goal

pub loop-col-init : goal.loop-col-init
unfolding visit_columns column_picks encode_picks
loop-col-init c =
    (refl, refl, c.pick_columns-next.ensures, λ r e. (loop_none _ _, sym (zip_at_none _ _ _)))

pub note-requires : goal.note-requires
note-requires c =
    let next = c.loop-col.invariant.2 in
    let most = c.requires.0.columns_most in
    (omega (arith, next.col0), omega (arith, next.col1))

pub visit_column-next-requires : goal.visit_column-next-requires
visit_column-next-requires c =
    let head = c in
    let d = head.loop-col.invariant in
    (omega arith, d.2.col0, d.2.col1, rw (head.of-starts.ensures, d.1) head.requires.1)

pub loop-col-preserved : goal.loop-col-preserved
unfolding visit_columns
loop-col-preserved c =
    let visited = c.visit_column-next in
    let noted = c.note in
    let head = c in
    let a = head.args in
    let v = head.loop-col in
    let column-word : _ ≡ set v.«record» (a.at + v.col) (packed v.next.col0.0 v.next.col1.0) = noted.ensures in (
      ap (λ (n : ℕ). n + 1) v.invariant.0,
      visited.auto.m ∙ v.invariant.1,
      visited.ensures.0,
      λ r e. (
        loop_more _ _ _ _ _ (v.invariant.3 r e).0
            (visit_column_done (settings a.p) r v.col v.next v.s v.m _ _ (visited.ensures.1 r e) (visited.ensures.2 r e)
            ∙ ap (λ (q : Picks). visit_column (settings a.p) r v.col q (work v.s v.m)) v.invariant.2.is),
        column-word
            ∙ column_noted (settings a.p) r _ v.col a.at _ v.«record» v.next (v.invariant.3 r e).1
            (v.invariant.2.is ∙ ap (λ (w : Work). picks (settings a.p) w.state) (v.invariant.3 r e).0),
      ),
    )

pub returns : goal.returns
returns c =
    let a = c.args in
    let v = c.loop-col in
    let at_end : v.col ≡ a.p.columns = omega arith in
    let done = v.invariant.3 a.rows c.of-starts.ensures in
    (omega arith, rw at_end at done.0, rw at_end at done.1)
