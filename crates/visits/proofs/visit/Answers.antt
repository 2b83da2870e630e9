-- `visit` meets its contract: the rows are picked and noted, then the columns are visited. Assumes nothing.
use mathlib.Core.Path.{◌≡◌, ◌∙◌, ap}
use Prim.Native.Nat.{ℕ, ◌+◌}
use native.Mathlib.Omega.{arith}
use mathlib.Core.List.{List}
use lib.ListN.{length, set}
use Rattle.lists.specs.Zip.{zip_at}
use Rattle.packing.specs.Packing.{packed}
use Rattle.columns.specs.declared.Rows.{Rows}
use Rattle.settings.specs.Settings.{settings}
use Rattle.columns.specs.Columns.{work}
use Rattle.columns.proofs.RowLaws.{within}
use Rattle.visits.specs.Visits.{walk, picked_rows, column_picks}
use Rattle.visits.specs.Encoding.{encode_picks}
use Rattle.visits.proofs.Recording.{visit-done, visit_noted}
use Rattle.visits.proofs.visit.Goals as goal

pub note-requires : goal.note-requires
note-requires c =
    let r = c.pick_rows-r.ensures in
    let most = c.requires.0.packable.rows_most in
    (omega (arith, r.0), omega (arith, r.1))

pub visit_row-calls-requires : goal.visit_row-calls-requires
unfolding picked_rows
visit_row-calls-requires c =
    let r = c.pick_rows-r in (
      c.requires.0.packable,
      within c.args.p.rows c.args.p.columns (length c.args.m.now) c.requires.0.room r.result r.ensures.0 r.ensures.1
          (omega (arith, c.requires.0.prev0_lt, ap (λ (q : Rows). q.prev0.0) r.ensures.2)) (omega (arith, c.requires.0.prev1_lt, ap (λ (q : Rows). q.prev1.0) r.ensures.2)),
      omega arith,
    )

pub returns : goal.returns
unfolding picked_rows
returns c =
    let r = c.pick_rows-r in
    let row = c.visit_row-calls in
    let noted = c.note in
    let w = walk (work c.args.s.now c.args.m.now) c.args.prev0.0 c.args.prev1.0 in
    let rows-noted : _ ≡ set c.args.«record».now c.args.at (packed r.result.row0.0 r.result.row1.0) = noted.ensures in
    record {
      counted = row.ensures.0;
      prev0_lt = r.ensures.0;
      prev1_lt = r.ensures.1;
      walked = visit-done (settings c.args.p) w r.result r.ensures.2 _ row.ensures.1;
      noted = visit_noted (settings c.args.p) w r.result r.ensures.2 c.args.at c.args.«record».now _
          (row.ensures.2 ∙ ap (λ (l : List ℕ). zip_at (λ x y. y) (c.args.at + 1) l (encode_picks (column_picks (settings c.args.p) r.result c.args.p.columns w.done))) rows-noted);
    }
