use Rattle.std.proofs.Common.{refl, sym, ◌∙◌, length, arith}
use Rattle.lists.specs.Zip.{zip_at}
use Rattle.lists.proofs.ZipLaws.{length-tabulate, get_or-tabulate, put_all}
use Rattle.lists.proofs.Placed.{placed_none, placed_again, placed_end}
use Rattle.lanes.proofs.LaneSteps.{length_prevs, prevs_set, states_kept}
use Rattle.lane_runs.proofs.last_rows.Goals as goal

pub loop-i-init : goal.loop-i-init
loop-i-init c = record { kept = refl; placed = placed_none _ (length-tabulate _ _) }

pub loop-i-preserved : goal.loop-i-preserved
loop-i-preserved c =
    let v = c.loop-i in
    record {
      kept = states_kept v.lanes v.i _ refl ∙ v.invariant.kept;
      placed = rw prevs_set (placed_again _ v.invariant.placed c.loop-i-test.true (omega arith) (sym (get_or-tabulate (length c.args.lanes.now) _ v.i c.loop-i-test.true)));
    }

pub returns : goal.returns
unfolding zip_at
returns c =
    let inv = c.loop-i.invariant in
    (inv.kept, placed_end _ inv.placed (omega arith) ∙ put_all _ _ (length-tabulate _ _ ∙ sym (length_prevs c.args.lanes.now)))
