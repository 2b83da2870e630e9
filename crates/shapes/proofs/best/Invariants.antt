-- The best of the column counts so far.
use Rattle.std.proofs.Common.{◌≡◌, ◌+◌, ◌-◌, ◌≤◌}
use Rattle.choice.specs.Choice.{best_of}
use Rattle.shapes.proofs.best.Given as goal

abbrev pub invariant-loop-columns : goal.invariant-loop-columns
invariant-loop-columns l = (l.columns ≤ l.n + 1) × (l.best ≡ best_of l.limit (l.columns - 1))
