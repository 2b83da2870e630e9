-- Two walks end alike, in work and visits, exactly where they start from the same state, whatever the two matrices held; so the key does
-- not depend on what the matrix held or how long it is. Assumes nothing.
use mathlib.Core.Path.{◌≡◌, refl, ap, ap₂, ◌∙◌}
use Prim.Native.Nat.{ℕ, ◌+◌, ◌-◌, ◌*◌, ◌≤◌, ◌<◌}
use native.Mathlib.Omega.{arith}
use mathlib.Core.List.{List}
use lib.ListN.{length}
use Rattle.little_endian.proofs.ByteLaws.{AllBytes}
use Rattle.mixer.specs.Word.{Undoes}
use Rattle.permutation.proofs.State.{IsState}
use Rattle.profile.specs.Profile.{full_rounds}
use Rattle.sponge.specs.Sponge.{absorb}
use Rattle.settings.specs.Settings.{Settings}
use Rattle.settings.specs.Sizes.{matrix_words, visit_count}
use Rattle.matrix.specs.Cells.{cell_at}
use Rattle.matrix.proofs.Apart.{row_before}
use Rattle.columns.specs.Columns.{work}
use Rattle.columns.proofs.View.{Sound, Below}
use Rattle.setup_order.proofs.Windows.{prev1_lt}
use Rattle.setup.proofs.SetupKeeps.{setup_keeps}
use Rattle.visits.specs.Visits.{Walk, wander, visits}
use Rattle.visits.proofs.VisitsUndone.{SoundWalk, SameDone, SameRows, wander_sound, wander_rows, wander_forth, wander_back}
use Rattle.input.specs.Input.{Input, input_state}
use Rattle.input.proofs.InputLaws.{input_state_lem}
use Rattle.key.specs.Key.{key_bytes}
use Rattle.derivation.specs.Derivation.{setup_end, walk_end, final_state, key_of}

module _ (S : Settings) (u : Undoes S.addition) (least : 3 ≤ S.rows) where
  abbrev last : List ℕ → List ℕ → Walk
  last s m = wander S (visit_count S) (setup_end S s m)

  before_setup : (s m : List ℕ) → IsState s → matrix_words S ≤ length m → Sound (S.rows * S.columns) (Below (0 * S.columns)) (work s m)
  before_setup s m hs fits = record { state = hs; fits = fits; words = λ q none. absurd (omega arith) }

  start_sound : (s m : List ℕ) → IsState s → matrix_words S ≤ length m → SoundWalk S.rows S.columns (setup_end S s m)
  unfolding setup_end
  start_sound s m hs fits =
      record {
        done = (setup_keeps S u least).sound (work s m) (before_setup s m hs fits);
        prev0 = omega arith;
        prev1 = omega (arith, prev1_lt (S.rows - 3));
      }

  start_rows : (s m t l : List ℕ) → SameRows (setup_end S s m) (setup_end S t l)
  unfolding setup_end
  start_rows s m t l = (refl, refl)

  last_sound : (s m : List ℕ) → IsState s → matrix_words S ≤ length m → SoundWalk S.rows S.columns (last s m)
  last_sound s m hs fits = wander_sound S u (visit_count S) (setup_end S s m) (start_sound s m hs fits)

  module _ (s m t l : List ℕ) (hs : IsState s) (ht : IsState t) (fm : matrix_words S ≤ length m) (fl : matrix_words S ≤ length l) where
    abbrev Alike : Type 0
    Alike = SameDone S.rows S.columns (last s m) (last t l) × (visits S (visit_count S) (setup_end S s m) ≡ visits S (visit_count S) (setup_end S t l))

    pub walk_forth : s ≡ t → Alike
    unfolding setup_end
    walk_forth e =
        wander_forth S u (visit_count S) (setup_end S s m) (setup_end S t l) (start_sound s m hs fm) (start_sound t l ht fl) (start_rows s m t l)
        ((setup_keeps S u least).forth (work s m) (work t l) (before_setup s m hs fm) (before_setup t l ht fl)
        (record { state = e; cells = λ q none. absurd (omega arith) }))

    pub walk_back : Alike → s ≡ t
    unfolding setup_end
    walk_back a =
        ((setup_keeps S u least).back (work s m) (work t l) (before_setup s m hs fm) (before_setup t l ht fl)
        (wander_back S u (visit_count S) (setup_end S s m) (setup_end S t l) (start_sound s m hs fm) (start_sound t l ht fl) (start_rows s m t l) a.1 a.0)
        ).state

    -- the last visits have the same rows
    walk_rows : Alike → SameRows (last s m) (last t l)
    walk_rows a = wander_rows S u (visit_count S) (setup_end S s m) (setup_end S t l) (start_rows s m t l) a.1

-- equal states end in equal states and cells
pub key_of_any_matrix : (S : Settings) → Undoes S.addition → 3 ≤ S.rows → 1 ≤ S.columns → (x : Input) → AllBytes x.password → AllBytes x.salt
    → (m l : List ℕ) → matrix_words S ≤ length m → matrix_words S ≤ length l → key_of S x m ≡ key_of S x l
unfolding key_of walk_end final_state
key_of_any_matrix S u least pos x hp hs m l fm fl =
    let s = input_state S x in
    let is = input_state_lem S x u hp hs in
    let alike = walk_forth S u least s m s l is is fm fl refl in
    let v = last S u least s m in
    let w = last S u least s l in
    let inside : v.prev0 * S.columns + 0 < S.rows * S.columns =
    omega (arith, row_before v.prev0 S.rows S.columns (last_sound S u least s m is fm).prev0) in
    let cells : cell_at S.columns v.prev0 0 v.done.matrix ≡ cell_at S.columns w.prev0 0 w.done.matrix =
    alike.0.cells (v.prev0 * S.columns + 0) inside
    ∙ ap (λ (row : ℕ). cell_at S.columns row 0 w.done.matrix) (walk_rows S u least s m s l is is fm fl alike).0 in
    ap (key_bytes S.addition.sum x.key_length) (ap₂ (absorb S.addition.sum full_rounds) cells alike.0.state)
