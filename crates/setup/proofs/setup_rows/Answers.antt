-- `setup_rows` meets its contract. The loop's invariant: where the work before it is that of the first row, the work is that of d rows, and
-- the order is that of the next one. Assumes nothing.
use mathlib.Core.Path.{◌≡◌, refl, sym, ap, ◌∙◌}
use Prim.Native.Nat.{◌+◌}
use native.Mathlib.Omega.{arith}
use native.Mathlib.Nat.{zero-mul, add-zero}
use Rattle.lists.specs.Loop.{loop}
use Rattle.lists.proofs.LoopLaws.{loop_more}
use Rattle.setup_order.specs.SetupOrder.{order, next_order}
use Rattle.setup_order.proofs.Windows.{order_fits, order_next}
use Rattle.setup.specs.Setup.{setup_rows}
use Rattle.setup.proofs.SetupKeeps.{reach_fewer}
use Rattle.columns.proofs.RowLaws.{row_more, row_before}
use Rattle.setup.proofs.setup_rows.Goals as goal

pub returns-then-n-eq0 : goal.returns-then-n-eq0
unfolding setup_rows loop
returns-then-n-eq0 c = rw (c.if-n-eq0.true, add-zero) (c.requires.0, sym (zero-mul _), refl)

pub setup_step-calls-requires : goal.setup_step-calls-requires
setup_step-calls-requires c =
    let start = c in
    (start.requires.0, reach_fewer _ (omega arith) start.requires.1)

pub next-next-requires : goal.next-next-requires
next-next-requires c =
    let start = c in
    rw start.requires.0 (order_fits start.args.k (omega (arith, start.requires.1.own_fits)))

pub loop-d-init : goal.loop-d-init
loop-d-init c =
    let start = c in
    (c.next-next.ensures ∙ ap next_order start.requires.0 ∙ order_next _, omega (arith, c.setup_step-calls.ensures.0), refl, λ w e. e)

pub setup_step-calls-requires-in-loop-d : goal.setup_step-calls-requires-in-loop-d
setup_step-calls-requires-in-loop-d c =
    let v = c.loop-d in
    let first = c.setup_step-calls in
    let start = c in
    (v.invariant.0, rw (v.invariant.2 ∙ first.auto.m) (reach_fewer _ (omega arith) start.requires.1))

pub overflow_add-calls : goal.overflow_add-calls
overflow_add-calls c =
    let v = c.loop-d in
    let start = c in
    let rows = start.args.own + (3 + (start.args.k + start.args.n)) in
    omega (arith, v.invariant.1, start.requires.1.own_room, c.setup_step-calls-in-loop-d.ensures.0, row_before v.d rows start.args.p.columns (omega arith))

pub next-next-requires-in-loop-d : goal.next-next-requires-in-loop-d
next-next-requires-in-loop-d c =
    let v = c.loop-d in
    let start = c in
    rw v.invariant.0 (order_fits (start.args.k + v.d) (omega (arith, start.requires.1.own_fits)))

pub loop-d-preserved : goal.loop-d-preserved
loop-d-preserved c =
    let v = c.loop-d in
    let stepped = c.setup_step-calls-in-loop-d in
    let a = c.args in
    let more : a.k + v.d + 1 ≡ a.k + (v.d + 1) = omega arith in (
      c.next-next-in-loop-d.ensures ∙ ap next_order v.invariant.0 ∙ order_next _ ∙ ap order more,
      omega (arith, stepped.ensures.0, v.invariant.1, row_more v.d a.p.columns),
      stepped.auto.m ∙ v.invariant.2,
      λ w e. loop_more _ _ _ _ _ (v.invariant.3 w e) stepped.ensures.1,
    )

pub returns : goal.returns
unfolding setup_rows loop
returns c =
    let v = c.loop-d in
    let a = c.args in
    let at_end : v.d ≡ a.n = omega arith in
    let first = c.setup_step-calls.ensures.1 in
    rw (← at_end) (v.invariant.0, v.invariant.1, v.invariant.3 _ (rw (add-zero a.k) first))
