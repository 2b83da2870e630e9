use Rattle.std.proofs.Common.{◌≡◌, sym, ◌+◌, ◌*◌, ◌%◌, length, arith}
use native.Mathlib.Nat.{zero-mul, mod-lt}
use Rattle.lists.proofs.LoopLaws.{loop_none, loop_more, loop_end}
use Rattle.settings.specs.Settings.{settings}
use Rattle.setup.specs.Setup.{setup_rows}
use Rattle.columns.proofs.RowLaws.{row_more}
use Rattle.lanes.specs.LaneSetup.{lane_setup, setup_in_turn}
use Rattle.lanes.proofs.InTurn.{lane_reach}
use Rattle.lanes.proofs.LaneSteps.{works_step}
use Rattle.lane_setup.proofs.setup_in_turn.Goals as goal

pub loop-i-init : goal.loop-i-init
loop-i-init c = record { order_is = λ some. absurd (omega arith); counted = sym (zero-mul _); done = loop_none _ _ }

pub setup_rows-done-requires : goal.setup_rows-done-requires
setup_rows-done-requires c =
    let v = c.loop-i in
    let a = c.args in
    let room = c.requires.0 in
    (c.requires.2, rw v.auto.m (lane_reach (3 + (a.k + a.n)) room c.requires.3 v.i ((v.i + a.t) % length a.lanes.now) c.loop-i-test.true (mod-lt _ room.lanes_pos)))

pub loop-i-preserved : goal.loop-i-preserved
unfolding lane_setup
loop-i-preserved c =
    let v = c.loop-i in
    let a = c.args in
    let filled = c.setup_rows-done.ensures in
    let other = (v.i + a.t) % length a.lanes.now in
    record {
      order_is = λ some. filled.0;
      counted = omega (arith, filled.1, row_more v.i (a.n * a.p.columns));
      done = loop_more _ _ _ _ _ v.invariant.done (works_step v.lanes v.i (setup_rows (settings a.p) (v.i * a.rows) (other * a.rows) a.k a.n) _ v.m _ filled.2);
    }

pub returns : goal.returns
unfolding setup_in_turn
returns c =
    let inv = c.loop-i.invariant in
    let all : c.loop-i.i ≡ length c.args.lanes.now = omega arith in
    (inv.order_is (omega (arith, c.requires.0.lanes_pos)), rw (← all) inv.counted, loop_end _ _ _ _ _ inv.done all)
