use Rattle.std.proofs.Common.{sym, ◌*◌, ◌≤◌, length, arith}
use native.Mathlib.Nat.{zero-mul, mul-le-mul}
use Rattle.lists.proofs.LoopLaws.{loop_none, loop_more}
use Rattle.mixer.specs.Mixers.{sum_of}
use Rattle.settings.specs.Settings.{settings}
use Rattle.input.specs.Input.{input, lengths, absorb_input}
use Rattle.columns.proofs.RowLaws.{row_more, row_before}
use Rattle.lanes.proofs.LaneSteps.{states_step}
use Rattle.lanes_derivation.specs.LanesCosts.{lane_blocks}
use Rattle.lanes_derivation.specs.LanesDerivation.{lane_numbers}
use Rattle.lanes_derivation.proofs.LanesCounted.{blocks_most}
use Rattle.lane_runs.proofs.absorb_lanes.Goals as goal

pub loop-i-init : goal.loop-i-init
loop-i-init c = record { counted = sym (zero-mul _); done = loop_none _ _ }

pub overflow_add-calls : goal.overflow_add-calls
overflow_add-calls c =
    let a = c.args in
    let p = length a.lanes.now in
    let l = lengths (input a.password.now a.salt.now a.key_length) in
    let few = blocks_most l c.requires.1 c.requires.2 in
    let all : p * lane_blocks l ≤ 144 = mul-le-mul c.requires.0 few in
    omega (arith, c.absorb_lane-calls.ensures.1, few, row_before c.loop-i.i p (lane_blocks l) c.loop-i-test.true, all)

pub loop-i-preserved : goal.loop-i-preserved
loop-i-preserved c =
    let v = c.loop-i in
    let a = c.args in
    let x = input a.password.now a.salt.now a.key_length in
    let absorbed = c.absorb_lane-calls.ensures in
    record {
      counted = omega (arith, absorbed.1, row_more v.i (lane_blocks (lengths x)));
      done = loop_more _ _ _ _ _ v.invariant.done
          (states_step v.lanes v.i (absorb_input (sum_of a.p.mixer) a.password.now a.salt.now (lane_numbers x (settings a.p) (length a.lanes.now) v.i)) _ absorbed.0);
    }
