use Rattle.std.proofs.Common.{◌≡◌, sym, ◌*◌, length, arith}
use native.Mathlib.Nat.{zero-mul}
use Rattle.lists.proofs.LoopLaws.{loop_none, loop_more, loop_end}
use Rattle.columns.proofs.RowLaws.{row_more, row_before}
use Rattle.settings.specs.Settings.{settings}
use Rattle.lanes.specs.LaneVisits.{visits_of, visits_in_turn}
use Rattle.lanes.proofs.LaneSteps.{prev_at, ready_set, lanes_step}
use Rattle.lane_wandering.proofs.visits_in_turn.Goals as goal

pub loop-i-init : goal.loop-i-init
loop-i-init c = record { counted = sym (zero-mul _); ready = c.requires.0; done = loop_none _ _ }

pub visit_lane-calls-requires : goal.visit_lane-calls-requires
visit_lane-calls-requires c =
    let v = c.loop-i in
    let a = c.args in (
      rw (sym v.auto.lanes) v.invariant.ready.room,
      rw (sym (prev_at v.lanes v.i), sym v.auto.lanes) (v.invariant.ready.rows v.i),
      omega (arith, c.requires.2, row_before v.i (length a.lanes.now) (a.count * a.p.columns) c.loop-i-test.true),
    )

pub loop-i-preserved : goal.loop-i-preserved
loop-i-preserved c =
    let v = c.loop-i in
    let a = c.args in
    let visited = c.visit_lane-calls in
    record {
      counted = omega (arith, row_more v.i (a.count * a.p.columns));
      ready = rw visited.auto.m (ready_set v.lanes v.i _ v.invariant.ready (rw v.auto.lanes visited.ensures.1));
      done = loop_more _ _ _ _ _ v.invariant.done (lanes_step v.lanes v.i (visits_of (settings a.p) (length a.lanes.now) a.rows a.t v.i a.count) _ v.m _ visited.ensures.2);
    }

pub returns : goal.returns
unfolding visits_in_turn
returns c =
    let inv = c.loop-i.invariant in
    let all : c.loop-i.i ≡ length c.args.lanes.now = omega arith in
    (rw (← all) inv.counted, inv.ready, loop_end _ _ _ _ _ inv.done all)
