-- The first columns are done.
use Rattle.std.proofs.Common.{◌≡◌, ℕ}
use Rattle.places.specs.Places.{row_start, first_word}
use Rattle.settings.specs.Settings.{settings}
use Rattle.columns.specs.Columns.{copy_column}
use Rattle.columns.proofs.RowLaws.{Done}
use Rattle.setup.proofs.copy_row.Given as goal

abbrev pub invariant-loop-col : goal.invariant-loop-col
invariant-loop-col l =
    Done (λ (x : (q : ℕ) × (r : ℕ) × (first_word l.from ≡ row_start l.p.columns q) × (first_word l.to ≡ row_start l.p.columns r)). copy_column (settings l.p) x.0 x.1)
    l.p.columns l.fn.s l.fn.m l.s l.m l.calls l.col l.mirror
