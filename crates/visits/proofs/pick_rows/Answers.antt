-- `pick_rows` meets its contract: words 0 and ω mod 12 of the state are those of the output. Assumes nothing.
use mathlib.Core.Path.{◌≡◌, ◌∙◌}
use Prim.Native.Nat.{◌*◌, ◌%◌}
use native.Mathlib.Omega.{arith}
use Rattle.settings.specs.Settings.{settings}
use Rattle.picks.proofs.Words.{picked_by_lem}
use Rattle.visits.specs.Visits.{picked_rows}
use Rattle.visits.proofs.pick_rows.Goals as goal

pub returns : goal.returns
unfolding picked_rows
returns c =
    let a = c.args in
    let ω = a.p.rotation in
    let row0 = c.picked.ensures in
    let row1 = c.picked-2.ensures in
    let at0 : 0 ≡ 0 * ω % 12 = omega arith in
    let at1 : c.place_after.result ≡ 1 * ω % 12 = c.place_after.ensures.value ∙ omega arith in
    let e0 = picked_by_lem (settings a.p) 0 a.p.rows a.s.now at0 row0.value in
    let e1 = picked_by_lem (settings a.p) 1 a.p.rows a.s.now at1 row1.value in
    (row0.upper_bound, row1.upper_bound, λ i. record { row0 = record { 0 = e0 i }; row1 = record { 0 = e1 i }; prev0 = a.prev0; prev1 = a.prev1 })
