-- The first columns are done.
use Rattle.std.proofs.Common.{◌≡◌}
use Rattle.settings.specs.Settings.{settings}
use Rattle.columns.specs.declared.Rows.{Rows}
use Rattle.columns.specs.Bounds.{starts_of}
use Rattle.columns.specs.Columns.{setup_column}
use Rattle.columns.proofs.RowLaws.{Done}
use Rattle.setup.proofs.setup_row.Given as goal

abbrev pub invariant-loop-col : goal.invariant-loop-col
invariant-loop-col l =
    Done (λ (x : (r : Rows) × (l.starts ≡ starts_of l.p.columns r)). setup_column (settings l.p) x.0) l.p.columns l.fn.s l.fn.m l.s l.m l.calls l.col l.mirror
