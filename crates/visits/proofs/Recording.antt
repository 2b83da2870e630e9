-- How the record grows: a word a column, visit_words a visit. Assumes nothing.
use mathlib.Core.Path.{◌≡◌, refl, sym, ap, ◌∙◌}
use Prim.Native.Nat.{ℕ, zero, suc, ◌+◌, ◌*◌, ◌<◌}
use native.Mathlib.Omega.{arith}
use native.Mathlib.Nat.{zero-mul, suc-mul}
use native.Mathlib.Numerals.{add-one}
use mathlib.Core.List.{List, [], ◌∷◌, ◌++◌, append_assoc, append-nil}
use lib.ListN.{length, set, length-append}
use Rattle.lists.specs.Zip.{zip_at}
use Rattle.lists.proofs.ZipLaws.{zip_none, zip_at_none, put-cons, put-append}
use Rattle.lists.proofs.LoopLaws.{loop_none, loop_more}
use Rattle.packing.specs.Packing.{packed}
use Rattle.settings.specs.Settings.{Settings}
use Rattle.settings.specs.Sizes.{visit_words}
use Rattle.columns.specs.declared.Rows.{Rows}
use Rattle.columns.specs.declared.Picks.{Picks}
use Rattle.columns.specs.Columns.{Work, picks}
use Rattle.visits.specs.Visits.{Walk, walk, Visit, picked_rows, visit_columns, visit, wander, column_picks, visit_data, visits}
use Rattle.columns.proofs.RowLaws.{row_more}
use Rattle.visits.specs.Encoding.{encode_picks, encode_visit, encode}
use Rattle.visits.specs.Wandered.{OneVisit, Wandered}
use Rattle.visits.proofs.EncodingLaws.{length-picks, as_many_picks}

pub encode_picks_snoc : (ps : List Picks) (p : Picks) → encode_picks (ps ++ (p ∷ [])) ≡ encode_picks ps ++ (packed p.col0.0 p.col1.0 ∷ [])
unfolding encode_picks
encode_picks_snoc [] p = refl
encode_picks_snoc (q ∷ ps) p = ap (λ (l : List ℕ). packed q.col0.0 q.col1.0 ∷ l) (encode_picks_snoc ps p)

pub encode_snoc : (vs : List Visit) (v : Visit) → encode (vs ++ (v ∷ [])) ≡ encode vs ++ encode_visit v
unfolding encode
encode_snoc [] v = append-nil (encode_visit v)
encode_snoc (u ∷ vs) v = ap (λ (l : List ℕ). encode_visit u ++ l) (encode_snoc vs v) ∙ sym (append_assoc (encode_visit u) (encode vs) (encode_visit v))

-- a word put after others
put_next : (a n : ℕ) (xs ys : List ℕ) (u : ℕ) → n ≡ length ys → set (zip_at (λ x y. y) a xs ys) (a + n) u ≡ zip_at (λ x y. y) a xs (ys ++ (u ∷ []))
put_next a n xs ys u e = rw (e, put-append, put-cons, zip_at_none)

-- ---- the columns of a visit
module _ (S : Settings) (r : Rows) (w : Work) where
  length_columns : (n : ℕ) → length (encode_picks (column_picks S r n w)) ≡ n
  length_columns n = omega (arith, length-picks (column_picks S r n w), as_many_picks S r n w)

  pub column_noted : (n a : ℕ) (xs l : List ℕ) (p : Picks) → l ≡ zip_at (λ x y. y) a xs (encode_picks (column_picks S r n w))
      → p ≡ picks S (visit_columns S r n w).state
      → set l (a + n) (packed p.col0.0 p.col1.0) ≡ zip_at (λ x y. y) a xs (encode_picks (column_picks S r (n + 1) w))
  unfolding column_picks
  column_noted n a xs l p inv e = rw (add-one n, inv, e, encode_picks_snoc) (put_next a n xs _ _ (sym (length_columns n)))

-- ---- a whole visit
module _ (S : Settings) (w : Walk) (r : Rows) (e : r ≡ picked_rows S w) where
  pub visit-done : (d : Work) → d ≡ visit_columns S r S.columns w.done → walk d r.row0.0 r.row1.0 ≡ visit S w
  unfolding visit
  visit-done d f = rw (f, e)

  pub visit_noted : (a : ℕ) (xs l : List ℕ)
      → l ≡ zip_at (λ x y. y) (a + 1) (set xs a (packed r.row0.0 r.row1.0)) (encode_picks (column_picks S r S.columns w.done))
      → l ≡ zip_at (λ x y. y) a xs (encode_visit (visit_data S w))
  unfolding visit_data encode_visit
  visit_noted a xs l f = rw (rw e at f, put-cons)

-- ---- visits one after another
module _ (S : Settings) (w : Walk) where
  pub length-visits : (n : ℕ) → length (encode (visits S n w)) ≡ n * visit_words S
  unfolding visits encode visit_data encode_visit
  length-visits zero = sym (zero-mul (visit_words S))
  length-visits (suc n) =
      let v = wander S n w in
      let one : length (encode_visit (visit_data S v)) ≡ visit_words S = omega (arith, length_columns S (picked_rows S v) v.done S.columns) in
      rw (encode_snoc, length-append) (omega (arith, length-visits n, suc-mul n (visit_words S)))

  pub wandered_none : w.prev0 < S.rows → w.prev1 < S.rows → (xs : List ℕ) → Wandered S 0 w w xs xs 0
  unfolding wander visits encode
  wandered_none h0 h1 xs =
      record { counted = sym (zero-mul _); prev0_lt = h0; prev1_lt = h1; walked = loop_none (λ k v. visit S v) w; noted = sym (zip_none (λ x y. y) xs) }

  -- one visit more, from place `at` of the record on
  pub wandered_more : {n calls at c : ℕ} {v v' : Walk} {xs ys ys' : List ℕ} → Wandered S n w v xs ys calls → at ≡ n * visit_words S → OneVisit S at v v' ys ys' c
      → Wandered S (n + 1) w v' xs ys' (calls + c)
  unfolding wander visits zip_at
  wandered_more {n} {calls} {at} {c} {v} {v'} {xs} {ys} {ys'} d place o =
      let vs = visits S n w in
      let last = visit_data S (wander S n w) in
      let where_to : at ≡ 0 + length (encode vs) = omega (arith, length-visits n) in
      record {
        counted = omega (arith, d.counted, o.counted, row_more n S.columns);
        prev0_lt = o.prev0_lt;
        prev1_lt = o.prev1_lt;
        walked = loop_more (λ k u. visit S u) n w v v' d.walked o.walked;
        noted = rw (add-one n) (cc (put-append 0 xs (encode vs) (encode_visit last), encode_snoc vs last));
      }
