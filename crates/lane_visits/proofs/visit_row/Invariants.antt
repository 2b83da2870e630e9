-- The columns before this one.
use Rattle.std.proofs.Common.{◌≡◌}
use Rattle.lists.specs.Loop.{loop}
use Rattle.settings.specs.Settings.{settings}
use Rattle.columns.specs.Columns.{work}
use Rattle.lane_columns.specs.LaneColumns.{lane_column}
use Rattle.lane_visits.proofs.visit_row.Given as goal

abbrev pub invariant-loop-col : goal.invariant-loop-col
invariant-loop-col l = record {
  counted : l.calls ≡ l.col;
  done : work l.s l.m ≡ loop (lane_column (settings l.p) l.fn.rows) l.col (work l.fn.s l.fn.m);
}
