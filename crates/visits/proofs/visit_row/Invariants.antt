-- Work and record are those of the first col columns, each a reduced call, and next are the picks of the next.
use Rattle.std.proofs.Common.{◌≡◌, ℕ, length}
use Rattle.lists.specs.Zip.{zip_at}
use Rattle.columns.specs.Bounds.{AtRows, Picked}
use Rattle.settings.specs.Settings.{settings}
use Rattle.columns.specs.Columns.{work}
use Rattle.visits.specs.Visits.{visit_columns, column_picks}
use Rattle.visits.specs.Encoding.{encode_picks}
use Rattle.visits.proofs.visit_row.Given as goal

abbrev pub invariant-loop-col : goal.invariant-loop-col
invariant-loop-col l =
    (l.calls ≡ l.col) × (length l.m ≡ length l.fn.m) × Picked (settings l.p) l.s l.next
    × AtRows l.p.columns l.starts (λ r. (work l.s l.m ≡ visit_columns (settings l.p) r l.col (work l.fn.s l.fn.m)) × (l.«record» ≡ zip_at (λ (x y : ℕ). y) l.at l.fn.«record» (encode_picks (column_picks (settings l.p) r l.col (work l.fn.s l.fn.m)))))
