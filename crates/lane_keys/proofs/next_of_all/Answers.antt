use Rattle.std.proofs.Common.{ap, sym, ◌∙◌, arith}
use Rattle.lanes.proofs.LaneSteps.{length_states, state_at, states_set}
use Rattle.key.specs.Key.{full_calls}
use Rattle.lane_keys.proofs.LaneBytes.{arriving_none, arriving_more, calls_one}
use Rattle.lane_keys.proofs.next_of_all.Goals as goal

pub loop-lane-init : goal.loop-lane-init
loop-lane-init c = record { few = omega arith; arriving = arriving_none _ _ _ }

pub loop-lane-preserved : goal.loop-lane-preserved
loop-lane-preserved c =
    let v = c.loop-lane in
    let next = c.next_byte-next.ensures in
    record {
      few = omega (arith, next.2, calls_one c.args.i);
      arriving =
          rw states_set
          (arriving_more _ _ _ v.invariant.arriving (omega (arith, length_states c.args.lanes.now)) _ _ _
          (next.0 ∙ ap (full_calls _ _) (sym (state_at v.lanes v.lane-index))) next.1 next.2);
    }
