-- As many columns are done as calls were made.
use Rattle.std.proofs.Common.{◌≡◌, ℕ}
use Rattle.places.specs.Places.{row_start, first_word}
use Rattle.settings.specs.Settings.{settings}
use Rattle.columns.specs.Columns.{fill_column}
use Rattle.columns.proofs.RowLaws.{Done}
use Rattle.setup.proofs.fill_row.Given as goal

abbrev pub invariant-loop-mirror : goal.invariant-loop-mirror
invariant-loop-mirror l =
    Done (λ (x : (row : ℕ) × (first_word l.to ≡ row_start l.p.columns row)). fill_column (settings l.p) x.0)
    l.p.columns l.fn.s l.fn.m l.s l.m l.calls l.calls l.mirror
