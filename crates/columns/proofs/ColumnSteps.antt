-- What one column of Setup and of a visit keep of the comparison: first the small steps that it is made of (a duplex, a call, a cell
-- written, a cell XORed), then the columns. Setup fills a row from its last column down, and the cells that it has filled are compared;
-- a visit compares every cell. Assumes nothing.
use mathlib.Core.Path.{◌≡◌, refl, sym, ap, ap₂, ◌∙◌, subst, subst₂}
use mathlib.Core.Logic.{◌≢◌}
use Prim.Native.Nat.{ℕ, suc, ◌+◌, ◌-◌, ◌*◌, ◌≤◌, ◌<◌}
use native.Mathlib.Nat.{mod-lt}
use native.Mathlib.Decide.{ℕ_discrete}
use native.Mathlib.Omega.{arith}
use mathlib.Core.List.{List}
use lib.ListN.{length}
use lib.Bits.{bit_xor}
use Rattle.lists.specs.Zip.{zip_at, xor_into}
use Rattle.lists.proofs.Words.{AllWords}
use Rattle.lists.proofs.ZipLaws.{length_zip, length-zip_at, xor_words_lem}
use Rattle.lists.proofs.Parts.{zip_at_undo}
use Rattle.mixer.specs.Word.{Undoes}
use Rattle.mixer.proofs.WordLaws.{xor_undo}
use Rattle.permutation.specs.Round.{rounds}
use Rattle.permutation.proofs.State.{IsState}
use Rattle.permutation.proofs.Undo.{rounds_state, rounds_inj}
use Rattle.cell_sums.proofs.Sums.{sum_words}
use Rattle.sponge.specs.Sponge.{rand, cell_sum}
use Rattle.sponge.proofs.Absorbing.{absorb_state, absorb_inj}
use Rattle.sponge.proofs.Output.{length-rand, rand-words}
use Rattle.settings.specs.Settings.{Settings}
use Rattle.places.specs.Places.{row_start, first_word, cell_start}
use Rattle.places.specs.declared.RowStart.{RowStart}
use Rattle.places.proofs.PlaceLaws.{start-place}
use Rattle.matrix.specs.Cells.{rotated}
use Rattle.matrix.proofs.CellLaws.{length_cell, length-rotated, rotated-words}
use Rattle.matrix.proofs.Apart.{cell, cell_changed, cell_kept, cell_put, row_before}
use Rattle.columns.specs.Columns.{Work, work, mirrored, duplexed, fill_column, copy_column, setup_cells, setup_written, setup_column, picks, visit_cells, visit_written, visit_column}
use Rattle.columns.specs.declared.Rows.{Rows}
use Rattle.columns.specs.declared.Picks.{Picks}
use Rattle.columns.proofs.View.{Cells, Below, Same, Sound, Keeps, keeps_then}

-- ---- words made of the compared cells alone

record Made (P : Cells) (f : List ℕ → List ℕ) : Type 0 where
  pub same : (l m : List ℕ) → ((q : ℕ) → P q → cell q l ≡ cell q m) → f l ≡ f m
  pub words : (m : List ℕ) → ((q : ℕ) → P q → AllWords (cell q m)) → AllWords (f m)

module _ {P : Cells} where
  made_cell : (q : ℕ) → P q → Made P (cell q)
  made_cell q h = record { same = λ l m e. e q h; words = λ m w. w q h }

  made_sum : {f g : List ℕ → List ℕ} → Made P f → Made P g → Made P (λ m. cell_sum (f m) (g m))
  made_sum {f} {g} mf mg =
      record {
        same = λ l m e. ap₂ cell_sum (mf.same l m e) (mg.same l m e);
        words = λ m w. sum_words (f m) (g m) (mf.words m w) (mg.words m w);
      }

  made_xor : {f : List ℕ → List ℕ} (ys : List ℕ) → AllWords ys → Made P f → Made P (λ m. xor_into (f m) ys)
  made_xor {f} ys hy mf =
      record {
        same = λ l m e. ap (λ (xs : List ℕ). xor_into xs ys) (mf.same l m e);
        words = λ m w. xor_words_lem (f m) ys (mf.words m w) hy;
      }

  made_known : (ys : List ℕ) → AllWords ys → Made P (λ m. ys)
  made_known ys hy = record { same = λ l m e. refl; words = λ m w. hy }

-- ---- the steps: words of the matrix duplexed, a call alone, a cell changed place by place

abbrev duplex : Settings → (List ℕ → List ℕ) → Work → Work
duplex S f w = work (duplexed S (f w.matrix) w.state) w.matrix

abbrev called : Settings → Work → Work
called S w = work (rounds S.addition.sum S.rounds w.state) w.matrix

abbrev change : (ℕ → ℕ → ℕ) → ℕ → (List ℕ → List ℕ → List ℕ) → Work → Work
change g q f w = work w.state (zip_at g (12 * q) w.matrix (f w.state w.matrix))

abbrev put : ℕ → (List ℕ → List ℕ → List ℕ) → Work → Work
put = change (λ x y. y)

abbrev xored : ℕ → (List ℕ → List ℕ) → Work → Work
xored q f = change bit_xor q (λ s m. f s)

-- ---- each keeps the comparison

module _ (n : ℕ) {P : Cells} where
  -- the state alone changes
  module _ (S : Settings) (u : Undoes S.addition) where
    keeps_duplex : {f : List ℕ → List ℕ} → Made P f → Keeps n P P (duplex S f)
    keeps_duplex {f} mf =
        record {
          sound = λ w h. record { state = absorb_state u S.rounds (f w.matrix) (mf.words w.matrix h.words) h.state; fits = h.fits; words = h.words };
          forth = λ v w hv hw s. record { state = ap₂ (duplexed S) (mf.same v.matrix w.matrix s.cells) s.state; cells = s.cells };
          back = λ v w hv hw s. record {
            state = absorb_inj u S.rounds (f v.matrix) v.state w.state (mf.words v.matrix hv.words) hv.state hw.state
                (s.state ∙ ap (λ (xs : List ℕ). duplexed S xs w.state) (sym (mf.same v.matrix w.matrix s.cells)));
            cells = s.cells;
          };
        }

    keeps_call : Keeps n P P (called S)
    keeps_call =
        record {
          sound = λ w h. record { state = rounds_state u S.rounds h.state; fits = h.fits; words = h.words };
          forth = λ v w hv hw s. record { state = ap (rounds S.addition.sum S.rounds) s.state; cells = s.cells };
          back = λ v w hv hw s. record { state = rounds_inj u S.rounds v.state w.state hv.state hw.state s.state; cells = s.cells };
        }

  -- a cell changes to `new` and the others stay: sound and the same after it, where `new` is of words and the same
  module _ {Q : Cells} (g : ℕ → ℕ → ℕ) (q : ℕ) (f : List ℕ → List ℕ → List ℕ) (new : Work → List ℕ)
      (len : (s m : List ℕ) → 12 * n ≤ length m → length (f s m) ≡ 12) (others : (x : ℕ) → Q x → x ≢ q → P x)
      (is : (w : Work) → Sound n P w → cell q (change g q f w).matrix ≡ new w) where
    kept : (w : Work) → Sound n P w → (x : ℕ) → x ≢ q → cell x (change g q f w).matrix ≡ cell x w.matrix
    kept w h = cell_kept g q w.matrix (f w.state w.matrix) (len w.state w.matrix h.fits)

    change_sound : ((w : Work) → Sound n P w → Q q → AllWords (new w)) → (w : Work) → Sound n P w → Sound n Q (change g q f w)
    change_sound words w h =
        record {
          state = h.state;
          fits = omega (arith, h.fits, length-zip_at g (12 * q) w.matrix (f w.state w.matrix));
          words = λ x hx. elim (ℕ_discrete x q) [
            | yes here ↦ rw (here, is w h) (words w h (rw here at hx))
            | no other ↦ rw (kept w h x other) (h.words x (others x hx other))
          ];
        }

    change_forth : ((v w : Work) → Sound n P v → Same P v w → Q q → new v ≡ new w)
        → (v w : Work) → Sound n P v → Sound n P w → Same P v w → Same Q (change g q f v) (change g q f w)
    change_forth same v w hv hw s =
        record {
          state = s.state;
          cells = λ x hx. elim (ℕ_discrete x q) [
            | yes here ↦ rw here (is v hv ∙ same v w hv s (rw here at hx) ∙ sym (is w hw))
            | no other ↦ kept v hv x other ∙ s.cells x (others x hx other) ∙ sym (kept w hw x other)
          ];
        }

  -- a cell that is not compared is overwritten and compared from then on
  keeps_put : {Q : Cells} (q : ℕ) → q < n → (P q → ⊥) → ((x : ℕ) → P x → Q x) → ((x : ℕ) → Q x → x ≢ q → P x)
      → (f : List ℕ → List ℕ → List ℕ) → ((s : List ℕ) → IsState s → Made P (f s))
      → ((s m : List ℕ) → 12 * n ≤ length m → length (f s m) ≡ 12) → Keeps n P Q (put q f)
  keeps_put {Q} q inside new grows others f made len =
      let after : Work → List ℕ = λ w. f w.state w.matrix in
      let is : (w : Work) → Sound n P w → cell q (put q f w).matrix ≡ after w =
      λ w h. cell_put n q w.matrix (after w) h.fits inside (len w.state w.matrix h.fits) in
      let stays = kept (λ x y. y) q f after len others is in
      record {
        sound = change_sound (λ x y. y) q f after len others is (λ w h hq. (made w.state h.state).words w.matrix h.words);
        forth = change_forth (λ x y. y) q f after len others is
            (λ v w hv s hq. (made v.state hv.state).same v.matrix w.matrix s.cells ∙ ap (λ (t : List ℕ). f t w.matrix) s.state);
        back = λ v w hv hw s. record {
          state = s.state;
          cells = λ x hx.
              let other : x ≢ q = λ e. new (subst P e hx) in sym (stays v hv x other) ∙ s.cells x (grows x hx) ∙ stays w hw x other;
        };
      }

  -- words that the state tells are XORed into a cell, whether it is compared or not. The same words XORed again give the work before, so
  -- the way back is the way forth
  keeps_xor : (q : ℕ) (f : List ℕ → List ℕ) → ((s : List ℕ) → length (f s) ≡ 12) → ((s : List ℕ) → AllWords s → AllWords (f s)) → Keeps n P P (xored q f)
  keeps_xor q f len words =
      let after : Work → List ℕ = λ w. xor_into (cell q w.matrix) (f w.state) in
      let is : (w : Work) → Sound n P w → cell q (xored q f w).matrix ≡ after w = λ w h. cell_changed bit_xor q w.matrix (f w.state) (len w.state) in
      let sound = change_sound bit_xor q (λ s m. f s) after (λ s m fits. len s) (λ x hx other. hx) is
      (λ w h hq. xor_words_lem (cell q w.matrix) (f w.state) (h.words q hq) (words w.state h.state.word)) in
      let forth = change_forth bit_xor q (λ s m. f s) after (λ s m fits. len s) (λ x hx other. hx) is (λ v w hv s hq. ap₂ xor_into (s.cells q hq) (ap f s.state)) in
      let twice : (w : Work) → xored q f (xored q f w) ≡ w =
      λ w i. work w.state (zip_at_undo bit_xor bit_xor xor_undo (12 * q) w.matrix (f w.state) i) in
      record {
        sound = sound;
        forth = forth;
        back = λ v w hv hw s. subst₂ (Same P) (twice v) (twice w) (forth (xored q f v) (xored q f w) (sound v hv) (sound w hw) s);
      }

  -- rot(rand), the second XOR of a column
  keeps_xor_rotated : (q ω : ℕ) → Keeps n P P (xored q (λ s. rotated ω (rand s)))
  keeps_xor_rotated q ω =
      keeps_xor q (λ s. rotated ω (rand s)) (λ s. length-rotated ω (rand s)) (λ s h. rotated-words ω (rand s) (rand-words s h))

-- ---- the columns

-- the rows that a Setup step reads are before the one that it fills
pub record RowsBefore (r : Rows) : Type 0 where
  pub row1 : r.row1.0 < r.row0.0
  pub prev0 : r.prev0.0 < r.row0.0
  pub prev1 : r.prev1.0 < r.row0.0

-- the rows before a row, and of that row the last cells, as many as columns were filled
abbrev pub Filled : ℕ → ℕ → ℕ → Cells
Filled C row col x = (x < row * C + C) × (row * C ≤ x → row * C + (C - col) ≤ x)

module _ (S : Settings) (u : Undoes S.addition) (n : ℕ) where
  abbrev C : ℕ
  C = S.columns

  -- ---- Setup: a row is filled from its last column down
  module _ (row col : ℕ) (inside : row * C + C ≤ n) (lt : col < C) where
    keeps_fill : (f : List ℕ → List ℕ → List ℕ) → ((s : List ℕ) → IsState s → Made (Filled C row col) (f s))
        → ((s m : List ℕ) → 12 * n ≤ length m → length (f s m) ≡ 12)
        → Keeps n (Filled C row col) (Filled C row (suc col)) (put (row * C + (C - 1 - col)) f)
    keeps_fill f made len =
        keeps_put n (row * C + (C - 1 - col)) (omega arith) (λ h. omega (arith, h.1 (omega arith)))
        (λ x h. (h.0, λ from. omega (arith, h.1 from))) (λ x h other. (h.0, λ from. omega (arith, h.1 from, other))) f made len

    -- a cell of an earlier row
    module _ (before : ℕ) (is : before * C + C ≤ row * C) where
      made_before : Made (Filled C row col) (cell (before * C + col))
      made_before = made_cell (before * C + col) (omega arith, λ from. absurd (omega arith))

      -- the earlier cell XOR the output
      keeps_fill_xored : Keeps n (Filled C row col) (Filled C row (suc col))
          (put (row * C + (C - 1 - col)) (λ s m. xor_into (cell (before * C + col) m) (rand s)))
      keeps_fill_xored =
          keeps_fill (λ s m. xor_into (cell (before * C + col) m) (rand s)) (λ s h. made_xor (rand s) (rand-words s h.word) made_before)
          (λ s m fits. length_zip bit_xor (cell (before * C + col) m) (rand s) ∙ length_cell (12 * (before * C + col)) m (omega arith))

  pub fill_column_keeps : (row0 col : ℕ) → row0 * C + C ≤ n → col < C → Keeps n (Filled C row0 col) (Filled C row0 (suc col)) (fill_column S row0 col)
  unfolding fill_column
  fill_column_keeps row0 col inside lt =
      keeps_then
      (keeps_fill row0 col inside lt (λ s m. rand s) (λ s h. made_known (rand s) (rand-words s h.word)) (λ s m fits. length-rand s))
      (keeps_call n S u)

  pub copy_column_keeps : (prev0 row0 col : ℕ) → prev0 * C + C ≤ row0 * C → row0 * C + C ≤ n → col < C
      → Keeps n (Filled C row0 col) (Filled C row0 (suc col)) (copy_column S prev0 row0 col)
  unfolding copy_column
  copy_column_keeps prev0 row0 col is inside lt =
      keeps_then (keeps_duplex n S u (made_before row0 col inside lt prev0 is)) (keeps_fill_xored row0 col inside lt prev0 is)

  pub setup_column_keeps : (r : Rows) (col : ℕ) → RowsBefore r → r.row0.0 * C + C ≤ n → col < C
      → Keeps n (Filled C r.row0.0 col) (Filled C r.row0.0 (suc col)) (setup_column S r col)
  unfolding setup_column setup_cells setup_written
  setup_column_keeps r col is inside lt =
      let before : (row : ℕ) → row < r.row0.0 → row * C + C ≤ r.row0.0 * C = λ row h. row_before row r.row0.0 C h in
      let of = made_before r.row0.0 col inside lt in
      keeps_then
      (keeps_duplex n S u
      (made_sum
      (made_sum (of r.row1.0 (before _ is.row1)) (of r.prev0.0 (before _ is.prev0)))
      (of r.prev1.0 (before _ is.prev1))))
      (keeps_then (keeps_fill_xored r.row0.0 col inside lt r.prev0.0 (before _ is.prev0))
      (keeps_xor_rotated n (r.row1.0 * C + col) S.rotation))

-- ---- a visit

-- the four rows of a visit are rows of a matrix of R rows
pub record RowsBelow (R : ℕ) (r : Rows) : Type 0 where
  pub row0 : r.row0.0 < R
  pub row1 : r.row1.0 < R
  pub prev0 : r.prev0.0 < R
  pub prev1 : r.prev1.0 < R

module _ (S : Settings) (u : Undoes S.addition) (r : Rows) (below : RowsBelow S.rows r) (col : ℕ) (lt : col < S.columns) where
  abbrev n : ℕ
  n = S.rows * S.columns

  visit_column_keeps : (p : Picks) → p.col0.0 < S.columns → p.col1.0 < S.columns
      → Keeps n (Below n) (Below n) (visit_column S r col p)
  unfolding visit_column visit_cells visit_written
  visit_column_keeps p lt0 lt1 =
      let of : (row : ℕ) → row < S.rows → (c : ℕ) → c < S.columns → Made (Below n) (cell (row * S.columns + c)) =
      λ row h c l. made_cell (row * S.columns + c) (omega (arith, row_before row S.rows S.columns h)) in
      keeps_then
      (keeps_duplex n S u
      (made_sum
      (made_sum (made_sum (of r.row0.0 below.row0 col lt) (of r.row1.0 below.row1 col lt))
      (of r.prev0.0 below.prev0 p.col0.0 lt0))
      (of r.prev1.0 below.prev1 p.col1.0 lt1)))
      (keeps_then (keeps_xor n (r.row0.0 * S.columns + col) rand length-rand rand-words) (keeps_xor_rotated n (r.row1.0 * S.columns + col) S.rotation))

  -- with the picks of any output
  pub picked_column_keeps : (s : List ℕ) → Keeps n (Below n) (Below n) (visit_column S r col (picks S s))
  unfolding picks
  picked_column_keeps s = visit_column_keeps (picks S s) (mod-lt _ (omega arith)) (mod-lt _ (omega arith))

-- the two parts of a visit's column together
pub visit_column_done : (S : Settings) (r : Rows) (col : ℕ) (p : Picks) (s m s' m' : List ℕ) → s' ≡ duplexed S (visit_cells S r col p m) s
    → m' ≡ visit_written S r col s' m → work s' m' ≡ visit_column S r col p (work s m)
unfolding visit_column
visit_column_done S r col p s m s' m' es em = cc

-- row 0 by its start
pub fill_column_done : (S : Settings) (row0 col mirror : ℕ) (a : RowStart) (s m s' m' : List ℕ) → first_word a ≡ row_start S.columns row0 → mirror ≡ mirrored S col
    → s' ≡ rounds S.addition.sum S.rounds s → m' ≡ zip_at (λ x y. y) (cell_start a mirror) m (rand s) → work s' m' ≡ fill_column S row0 col (work s m)
unfolding fill_column
fill_column_done S row0 col mirror a s m s' m' ea e es em = cc (start-place S.columns row0 a ea mirror)
