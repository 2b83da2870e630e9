use Rattle.std.proofs.Common.{◌≡◌, refl, ap, sym, ◌∙◌, ℕ, ◌*◌, ◌/◌, ◌<◌, List, length, get_or, arith}
use Rattle.lists.proofs.LoopLaws.{loop_none, loop_more, loop_end}
use Rattle.settings.specs.Settings.{settings}
use Rattle.columns.specs.Columns.{work}
use Rattle.columns.proofs.RowLaws.{row_before}
use Rattle.last_cell.specs.LastCell.{last_absorbed}
use Rattle.lanes.specs.LaneLists.{prevs_of}
use Rattle.lanes.proofs.LaneSteps.{no_lane, prev_at, prevs_kept, states_step}
use Rattle.lanes_derivation.specs.LanesDerivation.{final_states}
use Rattle.lane_runs.proofs.close_lanes.Goals as goal

pub loop-lane-init : goal.loop-lane-init
loop-lane-init c = record { counted = refl; kept = refl; done = loop_none _ _ }

pub absorb_last-requires : goal.absorb_last-requires
absorb_last-requires c =
    let v = c.loop-lane in
    let a = c.args in
    let room = c.requires.room in
    let R = length a.lanes.now * (a.p.rows / length a.lanes.now) in
    let below : (get_or v.lanes v.lane-index no_lane).prev < R = rw (← prev_at v.lanes v.lane-index, v.invariant.kept) (c.requires.rows v.lane-index) in
    (room.columns_pos, omega (arith, room.room, row_before (get_or v.lanes v.lane-index no_lane).prev R a.p.columns below))

pub loop-lane-preserved : goal.loop-lane-preserved
loop-lane-preserved c =
    let v = c.loop-lane in
    let a = c.args in
    let S = settings a.p in
    let prev = sym (prev_at v.lanes v.lane-index) ∙ ap (λ (r : List ℕ). get_or r v.lane-index 0) v.invariant.kept in
    record {
      counted = omega arith;
      kept = prevs_kept v.lanes v.lane-index _ refl ∙ v.invariant.kept;
      done = loop_more _ _ _ _ _ v.invariant.done
          (states_step v.lanes v.lane-index (λ s. last_absorbed S (get_or (prevs_of a.lanes.now) v.lane-index 0) (work s a.m.now)) _
          (c.absorb_last.ensures ∙ ap (λ (r : ℕ). last_absorbed S r (work (get_or v.lanes v.lane-index no_lane).state a.m.now)) prev));
    }

pub returns : goal.returns
unfolding final_states
returns c =
    let inv = c.loop-lane.invariant in
    let all : c.loop-lane.lane-index ≡ length c.args.lanes.now = omega arith in
    (inv.counted ∙ all, loop_end _ _ _ _ _ inv.done all)
