-- The inputs, Setup, the visits, the last cells, then zeros.
use Rattle.std.proofs.Common.{◌≡◌, sym, ap, ap₂, ◌∙◌, ℕ, ◌+◌, ◌-◌, ◌*◌, ◌/◌, length, arith}
use native.Mathlib.Nat.{mul-le-mul}
use Rattle.lists.specs.Loop.{loop}
use Rattle.lists.specs.Zip.{tabulate, cleared}
use Rattle.settings.specs.Settings.{settings}
use Rattle.setup_order.specs.declared.Order.{Order}
use Rattle.input.specs.Input.{input, lengths}
use Rattle.lanes.specs.Lanes.{works, lane_start}
use Rattle.lanes.specs.LaneSetup.{setup_lanes}
use Rattle.lanes.specs.LaneVisits.{lanes, wander_lanes}
use Rattle.lanes_derivation.specs.LanesDerivation.{absorb_lane, input_states, lanes_setup_end, lanes_end, final_states}
use Rattle.lanes_derivation.proofs.LanesCounted.{blocks_most, lanes_reduced, last_below}
use Rattle.lanes_derivation.proofs.LanesWithin.{lanes_within}
use Rattle.lane_runs.proofs.run_lanes.Goals as goal

pub wander_lanes-visited-requires : goal.wander_lanes-visited-requires
wander_lanes-visited-requires c =
    let fits = c.requires.0 in
    let n = c.args.p.rows / length c.args.lanes.now in
    let set = c.set_up_lanes-set in
    let at_setup = set.auto.lanes ∙ c.absorb_lanes-blocks.auto.lanes in
    let last = c.last_rows in (
      record {
        room = rw (last.auto.lanes ∙ at_setup, set.auto.m) fits.room;
        rows = rw (last.auto.lanes ∙ at_setup, last.ensures.1, at_setup) (last_below (length c.args.lanes.now) n fits.room.lanes_pos (omega (arith, fits.room.rows_least)));
      },
      ap (λ (o : Order). o.sqrt) set.ensures.0,
      fits.time,
    )

pub overflow_add-result : goal.overflow_add-result
overflow_add-result c =
    let a = c.args in
    let fits = c.requires.0 in
    let l = lengths (input a.password.now a.salt.now a.key_length) in
    omega (arith, c.absorb_lanes-blocks.ensures.0, fits.lanes_most, mul-le-mul fits.lanes_most (blocks_most l fits.password fits.salt))

pub returns : goal.returns
unfolding lanes_end lanes_setup_end input_states
returns c =
    let a = c.args in
    let fits = c.requires.0 in
    let S = settings a.p in
    let p = length a.lanes.now in
    let n = a.p.rows / p in
    let m = a.m.now in
    let x = input a.password.now a.salt.now a.key_length in
    let absorbed = c.absorb_lanes-blocks in
    let set = c.set_up_lanes-set in
    let last = c.last_rows in
    let visited = c.wander_lanes-visited in
    let closed = c.close_lanes-last in
    let many1 = absorbed.auto.lanes in
    let many2 = set.auto.lanes ∙ many1 in
    let many3 = last.auto.lanes ∙ many2 in
    let many4 = visited.auto.lanes ∙ many3 in
    let states = absorbed.ensures.1 ∙ ap (loop (absorb_lane S p x) p) c.requires.1 in
    let filled = set.ensures.2 ∙ (λ i. setup_lanes S (many1 i) n (works (states i) m)) in
    let prevs = last.ensures.1 ∙ ap (λ (k : ℕ). tabulate k (λ i. lane_start n i + (n - 1))) many2 in
    let begun = (λ i. lanes (works (last.ensures.0 i) set.new.m) (prevs i)) ∙ (λ i. lanes (filled i) (tabulate p (λ j. lane_start n j + (n - 1)))) in
    let end = visited.ensures.2 ∙ (λ i. wander_lanes S (many3 i) n (begun i)) in
    let used : 12 * (a.p.rows * a.p.columns) ≡ 12 * (p * n * a.p.columns) = ap (λ (R : ℕ). 12 * (R * a.p.columns)) (sym fits.shared) in
    record {
      full = ap₂ (λ (u v : ℕ). u + v) absorbed.ensures.0 (closed.ensures.0 ∙ many4);
      reduced =
          ap₂ (λ (u v : ℕ). u + v) (set.ensures.1 ∙ ap (λ (k : ℕ). k * n * a.p.columns) many1) (visited.ensures.0 ∙ ap (λ (k : ℕ). k * (n * a.p.time * a.p.columns)) many3)
          ∙ lanes_reduced p n a.p.rows a.p.columns a.p.time fits.shared;
      states_are = closed.ensures.1 ∙ (λ i. final_states S (many4 i) (end i));
      matrix_is =
          c.clear_matrix.ensures ∙ (λ i. cleared (used i) (end i).done.matrix)
          ∙ lanes_within S p x m fits.room.lanes_pos (omega (arith, fits.room.rows_least))
          ∙ ap (λ (k : ℕ). cleared k m) (sym used);
    }
