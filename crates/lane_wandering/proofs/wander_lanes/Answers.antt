use Rattle.std.proofs.Common.{◌≡◌, ap, ap₂, ◌∙◌, ℕ, ◌+◌, ◌-◌, ◌*◌, ◌<◌, ◌≤◌, length, min, add-one, arith}
use Rattle.settings.specs.Settings.{settings}
use Rattle.lists.proofs.LoopLaws.{loop_none, loop_more}
use Rattle.lanes.specs.Meetings.{first_visit, visits_in}
use Rattle.lanes.specs.LaneVisits.{visits_in_turn, wander_lanes}
use Rattle.lanes.specs.LaneLists.{lanes_of}
use Rattle.lanes.proofs.InTurn.{few, sqrt_range, calls_most, steps_between, calls_so_far, visit-zero, visit_end, visit-later, visits_over}
use Rattle.lane_wandering.proofs.Intervals.{interval_end, interval_few, intervals_few, all_reached}
use Rattle.lane_wandering.proofs.wander_lanes.Goals as goal

pub div_ceil-t-end-requires : goal.div_ceil-t-end-requires
div_ceil-t-end-requires c = omega (arith, c.requires.1, (sqrt_range c.requires.0.room).0)

pub loop-t-init : goal.loop-t-init
loop-t-init c = record {
  first_is = omega (arith, visit-zero c.args.sqrt);
  counted = omega arith;
  ready = c.requires.0;
  done = loop_none _ _;
}

pub overflow_mul-t : goal.overflow_mul-t
overflow_mul-t c =
    let sqrt = sqrt_range c.requires.0.room in
    let pos : 0 < c.args.sqrt = omega (arith, c.requires.1, sqrt) in
    omega (arith, c.requires.1, sqrt, (few c.args.p.time c.requires.0.room c.requires.2).visits, interval_end _ _ _ pos c.div_ceil-t-end.ensures c.loop-t.t c.loop-t-test.true)

pub overflow_add-t-in-loop-t : goal.overflow_add-t-in-loop-t
overflow_add-t-in-loop-t c =
    let sqrt = sqrt_range c.requires.0.room in
    let pos : 0 < c.args.sqrt = omega (arith, c.requires.1, sqrt) in
    omega (arith, c.requires.1, sqrt, (few c.args.p.time c.requires.0.room c.requires.2).visits, interval_end _ _ _ pos c.div_ceil-t-end.ensures c.loop-t.t c.loop-t-test.true)

pub overflow_sub-end : goal.overflow_sub-end
overflow_sub-end c = omega (arith, visit_end c.args.sqrt c.loop-t.t, visit-later c.args.sqrt c.loop-t.t (c.loop-t.t + 1) (omega arith))

pub visits_in_turn-calls-requires : goal.visits_in_turn-calls-requires
visits_in_turn-calls-requires c =
    let v = c.loop-t in
    let room = c.requires.0.room in
    let f = few c.args.p.time room c.requires.2 in
    let pos : 0 < c.args.sqrt = omega (arith, c.requires.1, sqrt_range room) in
    let few_visits : c.min-end.result - v.first ≤ 4177920 = omega (arith, f.visits) in (
      v.invariant.ready,
      omega (arith, f.visits, interval_few _ _ _ pos c.div_ceil-t-end.ensures v.t c.loop-t-test.true),
      omega (arith, v.auto.lanes, calls_most (length v.lanes) (c.min-end.result - v.first) c.args.p.columns (omega (arith, f.lanes)) few_visits room.columns_most),
    )

pub overflow_add-calls : goal.overflow_add-calls
overflow_add-calls c =
    let v = c.loop-t in
    let a = c.args in
    let room = c.requires.0.room in
    let f = few a.p.time room c.requires.2 in
    let ordered : v.first ≤ c.min-end.result = omega (arith, visit_end a.sqrt v.t, visit-later a.sqrt v.t (v.t + 1) (omega arith)) in
    let total = calls_so_far (length a.lanes.now) _ a.p.columns v.first c.min-end.result _ _ v.auto.lanes ordered v.invariant.counted c.visits_in_turn-calls.ensures.0 in
    let few_visits : c.min-end.result ≤ 4177920 = omega (arith, f.visits) in
    omega (arith, total, calls_most (length a.lanes.now) c.min-end.result a.p.columns f.lanes few_visits room.columns_most)

pub loop-t-preserved : goal.loop-t-preserved
loop-t-preserved c =
    let v = c.loop-t in
    let a = c.args in
    let visited = c.visits_in_turn-calls.ensures in
    let ordered : v.first ≤ c.min-end.result = omega (arith, visit_end a.sqrt v.t, visit-later a.sqrt v.t (v.t + 1) (omega arith)) in
    let end_is = c.min-end.ensures ∙ ap (λ (n : ℕ). min n (a.rows * a.p.time)) (visit_end a.sqrt v.t ∙ ap (first_visit a.sqrt) (add-one v.t)) in
    let count : c.min-end.result - v.first ≡ visits_in (settings a.p) a.rows v.t =
    rw (← c.requires.1) (steps_between _ _ (a.rows * a.p.time) _ _ v.invariant.first_is end_is) in
    record {
      first_is = omega (arith, visit_end a.sqrt v.t);
      counted = calls_so_far (length a.lanes.now) _ a.p.columns v.first c.min-end.result _ _ v.auto.lanes ordered v.invariant.counted visited.0;
      ready = visited.1;
      done = loop_more _ _ _ _ _ v.invariant.done (visited.2 ∙ ap₂ (λ (p k : ℕ). visits_in_turn (settings a.p) p a.rows v.t k (lanes_of v.lanes v.m)) v.auto.lanes count);
    }

pub returns : goal.returns
unfolding wander_lanes
returns c =
    let v = c.loop-t in
    let a = c.args in
    let pos : 0 < a.sqrt = omega (arith, c.requires.1, sqrt_range c.requires.0.room) in
    let k_is : v.t ≡ c.div_ceil-t-end.result = omega arith in
    let reached : a.rows * a.p.time ≤ first_visit a.sqrt v.t = rw k_is (all_reached _ _ _ pos c.div_ceil-t-end.ensures) in
    let all : v.first ≡ a.rows * a.p.time = omega arith in (
      rw (← all) v.invariant.counted,
      v.invariant.ready,
      v.invariant.done ∙ visits_over (settings a.p) (length a.lanes.now) a.rows v.t (a.rows * a.p.time) _ (rw (← c.requires.1) reached) (rw k_is (intervals_few _ _ _ pos c.div_ceil-t-end.ensures)),
    )
