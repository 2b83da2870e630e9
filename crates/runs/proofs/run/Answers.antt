-- `run` meets its contract: the input, Setup, then the visits. Assumes nothing.
use mathlib.Core.Path.{ap, ap₂, ◌∙◌}
use Prim.Native.Nat.{ℕ, ◌+◌, ◌-◌, ◌*◌, ◌≤◌}
use native.Mathlib.Nat.{le_trans, mul-le-mul}
use native.Mathlib.Omega.{arith}
use mathlib.Core.List.{List}
use Rattle.lists.specs.Zip.{put_into}
use Rattle.mixer.specs.Mixers.{sum_of}
use Rattle.settings.specs.Settings.{settings}
use Rattle.settings.specs.Sizes.{visit_count}
use Rattle.settings.specs.declared.Parameters.{Parameters}
use Rattle.settings.specs.declared.Lengths.{Lengths}
use Rattle.input.specs.Input.{input, numbers, absorb_input, input_state}
use Rattle.columns.specs.Columns.{Work, work}
use Rattle.setup_order.specs.declared.Order.{Order}
use Rattle.setup_order.proofs.Windows.{prev1_lt}
use Rattle.setup.specs.Setup.{setup}
use Rattle.visits.specs.Visits.{Walk, walk, wander, visits}
use Rattle.visits.specs.Encoding.{encode}
use Rattle.refusals.specs.Checks.{Accepted, plain_checks, cost_checks}
use Rattle.refusals.proofs.Accepted.{cells_most, visits_most, record_most}
use Rattle.derivation.specs.Derivation.{setup_end, walk_end, end_record}
use Rattle.derivation.proofs.Answering.{calls_sum}
use Rattle.runs.proofs.run.Goals as goal

-- the products of a walk within the limits, far below a word
record Few (p : Parameters) : Type 0 where
  cells : p.rows * p.columns ≤ 4194304
  visits : p.rows * p.time ≤ 4177920
  words : p.rows * p.time * (1 + p.columns) ≤ 1073725440
  calls : p.rows * p.time * p.columns ≤ 1069547520

few : (l : Lengths) (p : Parameters) (m : ℕ) → Accepted (plain_checks l p m) → Few p
unfolding plain_checks cost_checks
few l p m h =
    let n = visits_most p.rows p.time (omega arith) (omega arith) in
    let c : p.columns ≤ 256 = omega arith in
    record {
      cells = cells_most p.rows p.columns (omega arith) c;
      visits = n;
      words = record_most p.rows p.time p.columns (omega arith) (omega arith) c;
      calls = le_trans (mul-le-mul n c) (omega arith);
    }

pub wander-v-requires : goal.wander-v-requires
unfolding plain_checks cost_checks
wander-v-requires c =
    let start = c in
    let up = c.set_up-set in
    let f = few _ start.args.p _ start.requires in (
      record {
        packable = omega (arith, start.requires);
        prev0_lt = omega (arith, start.requires);
        prev1_lt = rw up.ensures.0 (omega (arith, start.requires, prev1_lt (start.args.p.rows - 3)));
        room = omega (arith, up.auto.m, start.requires);
      },
      omega (arith, f.words),
      omega (arith, f.calls),
    )

pub returns : goal.returns
unfolding walk_end end_record input_state setup_end
returns c =
    let a = c.args in
    let S = settings a.p in
    let x = input a.password.now a.salt.now a.key_length in
    let i = c.absorb_input-full.ensures in
    let up = c.set_up-set.ensures in
    let v = c.wander-v.ensures in
    let from = i.0 ∙ ap (absorb_input (sum_of a.p.mixer) x.password x.salt (numbers x S)) c.start.ensures in
    let e =
    ap₂ (λ (w : Work) (o : Order). walk w (a.p.rows - 1) o.prev1) (up.2 ∙ ap (λ (s : List ℕ). setup S (work s a.m.now)) from) up.0 in
    record {
      full = i.1;
      reduced = omega (arith, up.1, v.counted, calls_sum a.p.rows a.p.columns a.p.time);
      row0_lt = v.prev0_lt;
      row1_lt = v.prev1_lt;
      walked = v.walked ∙ ap (wander S (visit_count S)) e;
      noted = v.noted ∙ ap (λ (w : Walk). put_into a.«record».now (encode (visits S (visit_count S) w))) e;
    }

pub set_up-set-requires : goal.set_up-set-requires
unfolding plain_checks cost_checks
set_up-set-requires c = omega (arith, c.requires)

pub absorb_input-full-requires : goal.absorb_input-full-requires
unfolding plain_checks cost_checks
absorb_input-full-requires c = omega (arith, c.requires)

pub overflow_sub-p : goal.overflow_sub-p
unfolding plain_checks cost_checks
overflow_sub-p c = omega (arith, c.requires)

pub overflow_mul-p : goal.overflow_mul-p
overflow_mul-p c = omega (arith, (few _ c.args.p _ c.requires).visits)

pub overflow_add-result : goal.overflow_add-result
overflow_add-result c =
    let f = few _ c.args.p _ c.requires in
    omega (arith, f.cells, f.calls, c.set_up-set.ensures.1, c.wander-v.ensures.counted)
