-- The lanes before this one have their first rows.
use Rattle.std.proofs.Common.{◌≡◌, ◌*◌}
use Rattle.lists.specs.Loop.{loop}
use Rattle.settings.specs.Settings.{settings}
use Rattle.lanes.specs.LaneSetup.{lane_first_rows}
use Rattle.lanes.specs.LaneLists.{works_of}
use Rattle.lane_setup.proofs.first_in_turn.Given as goal

abbrev pub invariant-loop-i : goal.invariant-loop-i
invariant-loop-i l = record {
  counted : l.calls ≡ l.i * (3 * l.p.columns);
  done : works_of l.lanes l.m ≡ loop (lane_first_rows (settings l.p) l.rows) l.i (works_of l.fn.lanes l.fn.m);
}
