-- A visit and all visits are undone with their picks known: the state after tells the output, so both XORs are undone, also on one
-- cell; then the duplexed sum is known, and with it the state before. Assumes nothing.
use mathlib.Core.Path.{◌≡◌, refl, sym, ap, ◌∙◌, subst}
use Prim.Native.Nat.{ℕ, ◌*◌, ◌<◌}
use native.Mathlib.Nat.{mod-lt}
use native.Mathlib.Omega.{arith}
use Rattle.lists.proofs.Traces.{Undone, loop_good, loop_met, loop_forth, loop_back}
use Rattle.mixer.specs.Word.{Undoes}
use Rattle.settings.specs.Settings.{Settings}
use Rattle.columns.specs.Columns.{Work, picks, visit_column}
use Rattle.columns.specs.declared.Rows.{Rows}
use Rattle.columns.specs.declared.Picks.{Picks}
use Rattle.columns.proofs.View.{Same, Sound, Below}
use Rattle.columns.proofs.ColumnSteps.{RowsBelow, picked_column_keeps}
use Rattle.visits.specs.Visits.{Walk, picked_rows, visit_columns, visit, wander, column_picks, visit_data, visits}

-- a walk over R rows of C columns
pub record SoundWalk (R C : ℕ) (w : Walk) : Type 0 where
  pub done : Sound (R * C) (Below (R * C)) w.done
  pub prev0 : w.prev0 < R
  pub prev1 : w.prev1 < R

abbrev pub SameDone : ℕ → ℕ → Walk → Walk → Type 0
SameDone R C v w = Same (Below (R * C)) v.done w.done

abbrev pub SameRows : Walk → Walk → Type 0
SameRows v w = (v.prev0 ≡ w.prev0) × (v.prev1 ≡ w.prev1)

module _ (S : Settings) (u : Undoes S.addition) where
  abbrev R : ℕ
  R = S.rows

  abbrev C : ℕ
  C = S.columns

  abbrev step : Rows → ℕ → Work → Work
  step r col v = visit_column S r col (picks S v.state) v

  -- ---- columns

  columns_undone : (r : Rows) → RowsBelow R r
      → Undone C (Sound (R * C) (Below (R * C))) (Same (Below (R * C))) (λ v w. Unit {0}) (step r) (λ k w. picks S w.state)
  columns_undone r below =
      record {
        good = λ k lt w h. (picked_column_keeps S u r below k lt w.state).sound w h;
        met = λ k v w m e. tt;
        forth = λ k lt v w hv hw m s.
            let e = ap (picks S) s.state in (
              subst (λ (p : Picks). Same (Below (R * C)) (visit_column S r k (picks S v.state) v) (visit_column S r k p w)) e
                  ((picked_column_keeps S u r below k lt v.state).forth v w hv hw s),
              e,
            );
        back = λ k lt v w hv hw m e s.
            (picked_column_keeps S u r below k lt v.state).back v w hv hw
            (subst (λ (p : Picks). Same (Below (R * C)) (visit_column S r k (picks S v.state) v) (visit_column S r k p w)) (sym e) s);
      }

  module _ (r : Rows) (below : RowsBelow R r) where
    columns_sound : (w : Work) → Sound (R * C) (Below (R * C)) w → Sound (R * C) (Below (R * C)) (visit_columns S r C w)
    unfolding visit_columns column_picks
    columns_sound = loop_good (columns_undone r below) (column_picks S r) (λ w. refl) (λ n w. refl) C (omega arith)

    module _ (v w : Work) (hv : Sound (R * C) (Below (R * C)) v) (hw : Sound (R * C) (Below (R * C)) w) where
      columns_forth : Same (Below (R * C)) v w
          → Same (Below (R * C)) (visit_columns S r C v) (visit_columns S r C w) × (column_picks S r C v ≡ column_picks S r C w)
      unfolding visit_columns column_picks
      columns_forth = loop_forth (columns_undone r below) (column_picks S r) (λ w. refl) (λ n w. refl) C (omega arith) v w hv hw tt

      columns_back : column_picks S r C v ≡ column_picks S r C w
          → Same (Below (R * C)) (visit_columns S r C v) (visit_columns S r C w) → Same (Below (R * C)) v w
      unfolding visit_columns column_picks
      columns_back = loop_back (columns_undone r below) (column_picks S r) (λ w. refl) (λ n w. refl) C (omega arith) v w hv hw tt

  -- ---- a visit

  rows_below : (w : Walk) → SoundWalk R C w → RowsBelow R (picked_rows S w)
  unfolding picked_rows
  rows_below w h = record { row0 = mod-lt _ (omega (arith, h.prev0)); row1 = mod-lt _ (omega (arith, h.prev0)); prev0 = h.prev0; prev1 = h.prev1 }

  -- equal states pick equal rows, and equal data tell them
  same_rows : (v w : Walk) → v.done.state ≡ w.done.state → SameRows v w → picked_rows S v ≡ picked_rows S w
  unfolding picked_rows
  same_rows v w e m = cc

  told_rows : (v w : Walk) → visit_data S v ≡ visit_data S w → SameRows v w → picked_rows S v ≡ picked_rows S w
  unfolding picked_rows visit_data
  told_rows v w e m = λ i. record { row0 = record { 0 = (e i).row0 }; row1 = record { 0 = (e i).row1 }; prev0 = record { 0 = m.0 i }; prev1 = record { 0 = m.1 i } }

  told_picks : (v w : Walk) → visit_data S v ≡ visit_data S w
      → column_picks S (picked_rows S v) C v.done ≡ column_picks S (picked_rows S w) C w.done
  unfolding visit_data
  told_picks v w e = λ i. (e i).columns

  visit_sound : (w : Walk) → SoundWalk R C w → SoundWalk R C (visit S w)
  unfolding visit
  visit_sound w h =
      let below = rows_below w h in
      record { done = columns_sound (picked_rows S w) below w.done h.done; prev0 = below.row0; prev1 = below.row1 }

  visit_met : (v w : Walk) → SameRows v w → visit_data S v ≡ visit_data S w → SameRows (visit S v) (visit S w)
  unfolding visit visit_data
  visit_met v w m e = (λ i. (e i).row0, λ i. (e i).row1)

  module _ (v w : Walk) (hv : SoundWalk R C v) (hw : SoundWalk R C w) (m : SameRows v w) where
    visit_forth : SameDone R C v w → SameDone R C (visit S v) (visit S w) × (visit_data S v ≡ visit_data S w)
    unfolding visit visit_data
    visit_forth s =
        let r = picked_rows S v in
        let e = same_rows v w s.state m in
        let c = columns_forth r (rows_below v hv) v.done w.done hv.done hw.done s in
        let p : column_picks S (picked_rows S v) C v.done ≡ column_picks S (picked_rows S w) C w.done =
        c.1 ∙ ap (λ (q : Rows). column_picks S q C w.done) e in (
          subst (λ (q : Rows). Same (Below (R * C)) (visit_columns S r C v.done) (visit_columns S q C w.done)) e c.0,
          λ i. record { row0 = (e i).row0.0; row1 = (e i).row1.0; columns = p i },
        )

    visit_back : visit_data S v ≡ visit_data S w → SameDone R C (visit S v) (visit S w) → SameDone R C v w
    unfolding visit
    visit_back d s =
        let r = picked_rows S v in
        let e = told_rows v w d m in
        columns_back r (rows_below v hv) v.done w.done hv.done hw.done
        (told_picks v w d ∙ ap (λ (q : Rows). column_picks S q C w.done) (sym e))
        (subst (λ (q : Rows). Same (Below (R * C)) (visit_columns S r C v.done) (visit_columns S q C w.done)) (sym e) s)

  visit_undone : (N : ℕ) → Undone N (SoundWalk R C) (SameDone R C) SameRows (λ k w. visit S w) (λ k w. visit_data S w)
  visit_undone N = record { good = λ k lt. visit_sound; met = λ k. visit_met; forth = λ k lt. visit_forth; back = λ k lt. visit_back }

  -- ---- all visits

  pub wander_sound : (n : ℕ) (w : Walk) → SoundWalk R C w → SoundWalk R C (wander S n w)
  unfolding wander visits
  wander_sound n = loop_good (visit_undone n) (visits S) (λ w. refl) (λ k w. refl) n (omega arith)

  pub wander_rows : (n : ℕ) (v w : Walk) → SameRows v w → visits S n v ≡ visits S n w → SameRows (wander S n v) (wander S n w)
  unfolding wander visits
  wander_rows n = loop_met (visit_undone n) (visits S) (λ w. refl) (λ k w. refl) n

  module _ (n : ℕ) (v w : Walk) (hv : SoundWalk R C v) (hw : SoundWalk R C w) (rows : SameRows v w) where
    pub wander_forth : SameDone R C v w → SameDone R C (wander S n v) (wander S n w) × (visits S n v ≡ visits S n w)
    unfolding wander visits
    wander_forth = loop_forth (visit_undone n) (visits S) (λ w. refl) (λ k w. refl) n (omega arith) v w hv hw rows

    pub wander_back : visits S n v ≡ visits S n w → SameDone R C (wander S n v) (wander S n w) → SameDone R C v w
    unfolding wander visits
    wander_back = loop_back (visit_undone n) (visits S) (λ w. refl) (λ k w. refl) n (omega arith) v w hv hw rows
