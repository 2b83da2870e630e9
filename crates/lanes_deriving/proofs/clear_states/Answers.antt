use Rattle.std.proofs.Common.{◌∙◌, [], below_more, arith}
use lib.Seq.{get_or-set_same, get_or-set_other}
use Rattle.lanes.specs.LaneLists.{states_of}
use Rattle.lanes.proofs.LaneSteps.{length_states, states_set}
use Rattle.lanes_deriving.proofs.clear_states.Goals as goal

pub loop-lane-preserved : goal.loop-lane-preserved
loop-lane-preserved c =
    let v = c.loop-lane in
    let cleared = c.clear_state-kept.ensures in
    record {
      same = cleared.0 ∙ v.invariant.same;
      zeros = below_more _ _
          (λ i lt. rw states_set (get_or-set_other (states_of v.lanes) v.lane-index i _ [] (λ e. omega arith) ∙ v.invariant.zeros i lt))
          (rw states_set (get_or-set_same (states_of v.lanes) v.lane-index _ [] (omega (arith, length_states v.lanes)) ∙ cleared.1));
    }
