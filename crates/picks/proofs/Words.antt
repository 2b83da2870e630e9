-- A number that a word of the output picks is picked by the same word of the state. Assumes nothing.
use mathlib.Core.Path.{◌≡◌, sym, ap, ◌∙◌}
use Prim.Native.Nat.{ℕ, ◌*◌, ◌%◌, ◌<◌}
use native.Mathlib.Omega.{arith}
use mathlib.Core.List.{List}
use lib.ListN.{get_or}
use Rattle.sponge.proofs.Output.{get_or-rand}
use Rattle.settings.specs.Settings.{Settings}
use Rattle.columns.specs.Columns.{picked_by}

pub picked_by_lem : (S : Settings) (j n : ℕ) (s : List ℕ) {place r : ℕ} → place ≡ j * S.rotation % 12 → r ≡ get_or s place 0 % n → r ≡ picked_by S j n s
picked_by_lem S j n s {place} at e =
    let inside : j * S.rotation % 12 < 12 = omega arith in
    e ∙ ap (λ (k : ℕ). get_or s k 0 % n) at ∙ ap (λ (w : ℕ). w % n) (sym (get_or-rand s (j * S.rotation % 12) inside))
