use Rattle.std.proofs.Common.{◌<◌, sym, ◌∙◌, arith}
use Rattle.lists.specs.Zip.{zip_at}
use Rattle.lists.proofs.Placed.{placed_none, placed_again, placed_end}
use Rattle.key.proofs.Same.{differing_none, differing_more_lem, differing_end}
use Rattle.lane_keys.proofs.LaneBytes.{length_keys, all_none, all_more, all_byte, all_few, all_end}
use Rattle.lane_keys.proofs.take_key.Goals as goal

pub loop-i-init : goal.loop-i-init
loop-i-init c = record { placed = placed_none _ (length_keys _ _ _ _); compared = λ e. differing_none (length_keys _ _ _ _ ∙ sym e); taken = all_none _ _ }

pub overflow_add-calls : goal.overflow_add-calls
overflow_add-calls c =
    let next = rw c.loop-i.auto.lanes at c.next_of_all-next.ensures in
    omega (arith, all_few _ _ (all_more _ _ c.loop-i.invariant.taken next) (omega arith) (omega arith))

pub loop-i-preserved : goal.loop-i-preserved
unfolding zip_at
loop-i-preserved c =
    let inv = c.loop-i.invariant in
    let next = rw c.loop-i.auto.lanes at c.next_of_all-next.ensures in
    let lt : c.loop-i.i < c.args.bytes = omega arith in
    let byte = all_byte _ _ inv.taken next _ lt in
    record {
      placed = rw c.put_byte.ensures (placed_again _ inv.placed lt (omega arith) byte);
      compared = λ e. differing_more_lem (inv.compared e) (omega arith) (c.differing_more-difference.ensures (omega arith)) byte;
      taken = all_more _ _ inv.taken next;
    }

pub returns : goal.returns
unfolding zip_at
returns c =
    let inv = c.loop-i.invariant in
    record {
      key_is = placed_end _ inv.placed (omega arith);
      same_is = λ e. differing_end (inv.compared e) (omega arith);
      calls = all_end _ _ inv.taken (omega arith);
    }
