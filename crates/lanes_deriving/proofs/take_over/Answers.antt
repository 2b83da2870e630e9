-- The run, then the key; the counts are far below a word.
use Rattle.std.proofs.Common.{ap, ap₂, ◌∙◌, ◌≤◌, length, arith}
use Rattle.lists.specs.Zip.{put_into}
use Rattle.mixer.specs.Mixers.{sum_of}
use Rattle.settings.specs.Settings.{settings}
use Rattle.input.specs.Input.{input, lengths}
use Rattle.key.specs.Key.{same_bytes}
use Rattle.derivation.specs.Answers.{spent_on}
use Rattle.lane_keys.specs.LaneKeys.{keys_xored}
use Rattle.lanes_derivation.specs.LanesDerivation.{lanes_key_of}
use Rattle.lanes_deriving.proofs.LanesEnds.{full_is, full_most, reduced_most}
use Rattle.lanes_deriving.proofs.take_over.Goals as goal

pub overflow_add-ran : goal.overflow_add-ran
overflow_add-ran c =
    let a = c.args in
    let pre = c.requires in
    let p = length a.lanes.now in
    let l = lengths (input a.password.now a.salt.now a.bytes) in
    let taken = rw c.run_lanes-ran.auto.lanes at c.take_key-taken.ensures in
    let calls = full_is l p pre.key_least c.run_lanes-ran.ensures.full taken.calls in
    omega (arith, calls, full_most l p pre.key_most pre.fits.password pre.fits.salt pre.fits.lanes_most)

pub spent-requires : goal.spent-requires
spent-requires c =
    let a = c.args in
    let pre = c.requires in
    let p = length a.lanes.now in
    let l = lengths (input a.password.now a.salt.now a.bytes) in
    let ran = c.run_lanes-ran.ensures in
    let taken = rw c.run_lanes-ran.auto.lanes at c.take_key-taken.ensures in
    let calls = full_is l p pre.key_least ran.full taken.calls in
    let rows : a.p.rows ≤ 16384 = omega (arith, pre.fits.shared, pre.fits.room.rows_most) in (
      omega (arith, calls, full_most l p pre.key_most pre.fits.password pre.fits.salt pre.fits.lanes_most),
      omega (arith, ran.reduced, reduced_most a.p.rows a.p.columns a.p.time rows pre.fits.room.columns_most pre.fits.time),
      pre.rounds_most,
    )

pub returns : goal.returns
unfolding lanes_key_of
returns c =
    let a = c.args in
    let p = length a.lanes.now in
    let ran = c.run_lanes-ran.ensures in
    let taken = rw c.run_lanes-ran.auto.lanes at c.take_key-taken.ensures in
    let calls = full_is (lengths (input a.password.now a.salt.now a.bytes)) p c.requires.key_least ran.full taken.calls in
    let given = ap (keys_xored (sum_of a.p.mixer) p a.bytes) ran.states_are in
    record {
      answer = c.spent.ensures ∙ ap₂ (spent_on (settings a.p)) calls ran.reduced;
      key_is = taken.key_is ∙ ap (put_into a.key.now) given;
      same_is = λ e. taken.same_is e ∙ ap (same_bytes a.stored.now) given;
      matrix_is = ran.matrix_is;
    }
