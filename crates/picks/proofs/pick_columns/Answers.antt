-- The words of the state at 2ω and 3ω, each mod 12, are those of the output. Assumes nothing.
use mathlib.Core.Path.{◌≡◌, ◌∙◌}
use Prim.Native.Nat.{◌+◌, ◌*◌, ◌%◌}
use native.Mathlib.Omega.{arith}
use Rattle.settings.specs.Settings.{settings}
use Rattle.columns.specs.Columns.{picks}
use Rattle.picks.proofs.Words.{picked_by_lem}
use Rattle.picks.proofs.pick_columns.Goals as goal

pub returns : goal.returns
unfolding picks
returns c =
    let a = c.args in
    let ω = a.p.rotation in
    let first : c.place_after.result ≡ (0 + ω) % 12 = c.place_after.ensures.value in
    let at0 : c.place_after-second.result ≡ 2 * ω % 12 = c.place_after-second.ensures.value ∙ omega (arith, first) in
    let at1 : c.place_after-third.result ≡ 3 * ω % 12 = c.place_after-third.ensures.value ∙ omega (arith, at0) in
    let col0 = c.picked_column.ensures in
    let col1 = c.picked_column-2.ensures in
    let e0 = picked_by_lem (settings a.p) 2 a.p.columns a.s.now at0 col0.value in
    let e1 = picked_by_lem (settings a.p) 3 a.p.columns a.s.now at1 col1.value in
    record { is = λ i. record { col0 = record { 0 = e0 i }; col1 = record { 0 = e1 i } }; col0 = col0.upper_bound; col1 = col1.upper_bound }
