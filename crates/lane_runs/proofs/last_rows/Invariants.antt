-- The lanes before this one have their last rows.
use Rattle.std.proofs.Common.{◌≡◌, ◌+◌, ◌-◌, ◌*◌, length}
use Rattle.lists.specs.Zip.{tabulate}
use Rattle.lists.proofs.Placed.{Placed}
use Rattle.lanes.specs.LaneLists.{states_of, prevs_of}
use Rattle.lane_runs.proofs.last_rows.Given as goal

abbrev pub invariant-loop-i : goal.invariant-loop-i
invariant-loop-i l = record {
  kept : states_of l.lanes ≡ states_of l.fn.lanes;
  placed : Placed (λ x y. y) 0 (prevs_of l.fn.lanes) (tabulate (length l.fn.lanes) (λ i. i * l.rows + (l.rows - 1))) (prevs_of l.lanes) l.i (length l.fn.lanes);
}
