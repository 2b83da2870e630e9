use Rattle.std.proofs.Common.{◌≡◌, ap, ap₂, sym, ◌∙◌, ℕ, suc, ◌+◌, ◌-◌, ◌*◌, ◌/◌, ◌≤◌, length, min, add-one, arith}
use native.Mathlib.Nat.{mul_assoc}
use Rattle.lists.specs.Loop.{loop}
use Rattle.lists.proofs.LoopLaws.{loop_none, loop_more}
use Rattle.settings.specs.Settings.{settings}
use Rattle.setup_order.specs.SetupOrder.{order}
use Rattle.setup_order.specs.declared.Order.{Order}
use Rattle.setup_order.proofs.Windows.{sqrt_most}
use Rattle.lanes.specs.Meetings.{first_row, rows_in}
use Rattle.lanes.specs.LaneSetup.{setup_in_turn, setup_lanes}
use Rattle.lanes.specs.LaneLists.{works_of}
use Rattle.lanes.proofs.InTurn.{few, calls_most, steps_between, calls_so_far, row_first, row_next, rows_over}
use Rattle.lane_setup.proofs.Intervals.{begins, ordered}
use Rattle.lane_setup.proofs.set_up_lanes.Goals as goal

pub loop-first-init : goal.loop-first-init
unfolding order
loop-first-init c = record {
  few = omega arith;
  first_is = omega (arith, row_first.0, c.requires.rows_least);
  next_is = λ lt. sym row_first.1;
  order_is = c.first-order.ensures;
  counted = c.first_in_turn-calls.ensures.0;
  done = loop_none _ _;
}

pub overflow_sub-first : goal.overflow_sub-first
overflow_sub-first c =
    let v = c.loop-first in
    let lt = c.loop-first-test.true in
    omega (arith, ordered _ _ _ v.t _ lt v.invariant.first_is (v.invariant.next_is lt) c.min-end.ensures)

pub overflow_sub-end : goal.overflow_sub-end
overflow_sub-end c =
    let v = c.loop-first in
    let lt = c.loop-first-test.true in
    omega (arith, ordered _ _ _ v.t _ lt v.invariant.first_is (v.invariant.next_is lt) c.min-end.ensures)

pub setup_in_turn-done-requires : goal.setup_in_turn-done-requires
setup_in_turn-done-requires c =
    let v = c.loop-first in
    let lt = c.loop-first-test.true in
    let o = ordered _ _ _ v.t _ lt v.invariant.first_is (v.invariant.next_is lt) c.min-end.ensures in
    (rw (v.auto.lanes ∙ c.first_in_turn-calls.auto.lanes, v.auto.m ∙ c.first_in_turn-calls.auto.m) c.requires, omega (arith, o, (few 0 c.requires (omega arith)).rows), v.invariant.order_is, omega (arith, o))

pub overflow_add-calls : goal.overflow_add-calls
overflow_add-calls c =
    let v = c.loop-first in
    let a = c.args in
    let lt = c.loop-first-test.true in
    let f = few 0 c.requires (omega arith) in
    let o = ordered _ _ _ v.t _ lt v.invariant.first_is (v.invariant.next_is lt) c.min-end.ensures in
    let total = calls_so_far (length a.lanes.now) _ a.p.columns v.first c.min-end.result _ _ (v.auto.lanes ∙ c.first_in_turn-calls.auto.lanes) (omega (arith, o)) v.invariant.counted c.setup_in_turn-done.ensures.1 in
    omega (arith, total, calls_most (length a.lanes.now) c.min-end.result a.p.columns f.lanes (omega (arith, o, f.rows)) c.requires.columns_most)

pub overflow_add-next : goal.overflow_add-next
overflow_add-next c =
    let v = c.loop-first in
    let lt = c.loop-first-test.true in
    let k = v.first - 3 + (c.min-end.result - v.first) in
    let o = ordered _ _ _ v.t _ lt v.invariant.first_is (v.invariant.next_is lt) c.min-end.ensures in
    let small : c.setup_in_turn-done.result.order.sqrt ≤ 3 + k = rw c.setup_in_turn-done.ensures.0 (sqrt_most k) in
    omega (arith, small, o, (few 0 c.requires (omega arith)).rows)

pub overflow_add-t : goal.overflow_add-t
overflow_add-t c = omega (arith, (few 0 c.requires (omega arith)).rows)

pub loop-first-smaller : goal.loop-first-smaller
loop-first-smaller c =
    let v = c.loop-first in
    let lt = c.loop-first-test.true in
    omega (arith, ordered _ _ _ v.t _ lt v.invariant.first_is (v.invariant.next_is lt) c.min-end.ensures)

pub loop-first-preserved : goal.loop-first-preserved
loop-first-preserved c =
    let v = c.loop-first in
    let a = c.args in
    let n = a.rows in
    let lt = c.loop-first-test.true in
    let next_is = v.invariant.next_is lt in
    let end_is = c.min-end.ensures in
    let here = begins _ _ _ v.t _ lt v.invariant.first_is next_is end_is in
    let o = ordered _ _ _ v.t _ lt v.invariant.first_is next_is end_is in
    let done = c.setup_in_turn-done.ensures in
    let end : ℕ = c.min-end.result in
    let reached : v.first - 3 + (end - v.first) ≡ end - 3 = omega (arith, o) in
    let ordered_now = done.0 ∙ ap order reached in
    let as_many = v.auto.lanes ∙ c.first_in_turn-calls.auto.lanes in
    let count : end - v.first ≡ rows_in n v.t = steps_between _ _ n _ _ v.invariant.first_is (end_is ∙ ap (λ (k : ℕ). min k n) next_is) in
    record {
      few = omega (arith, o);
      first_is = end_is ∙ ap (λ (k : ℕ). min k n) (next_is ∙ ap first_row (sym (add-one v.t)));
      next_is = λ less.
          let inner : end ≡ v.next = omega arith in
          ap₂ (λ (x y : ℕ). x + y / 2) next_is
          (ap (λ (q : Order). q.sqrt) (ordered_now ∙ ap (λ (k : ℕ). order (k - 3)) (inner ∙ next_is)))
          ∙ sym (row_next v.t) ∙ ap (λ (k : ℕ). first_row (suc k)) (sym (add-one v.t));
      order_is = ordered_now;
      counted = calls_so_far (length a.lanes.now) _ a.p.columns v.first end _ _ (v.auto.lanes ∙ c.first_in_turn-calls.auto.lanes) (omega (arith, o)) v.invariant.counted done.1;
      done = loop_more _ _ _ _ _ v.invariant.done
          (done.2 ∙ (λ i. setup_in_turn (settings a.p) (as_many i) n v.t (here i - 3) (count i) (works_of v.lanes v.m)));
    }

pub returns : goal.returns
unfolding setup_lanes
returns c =
    let v = c.loop-first in
    let a = c.args in
    let n = a.rows in
    let p = length a.lanes.now in
    let S = settings a.p in
    let all : v.first ≡ n = omega arith in
    let past : n ≤ first_row v.t = omega arith in (
      v.invariant.order_is ∙ ap (λ (k : ℕ). order (k - 3)) all,
      v.invariant.counted ∙ ap (λ (k : ℕ). p * (k * a.p.columns)) all ∙ sym (mul_assoc p n a.p.columns),
      v.invariant.done ∙ rows_over S p n v.t n _ past v.invariant.few
          ∙ ap (loop (λ (i : ℕ). setup_in_turn S p n i (first_row i - 3) (rows_in n i)) n) c.first_in_turn-calls.ensures.1,
    )
