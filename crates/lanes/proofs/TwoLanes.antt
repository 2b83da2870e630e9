-- Visits of two lanes may change places where neither writes a row that the other one uses. Assumes nothing.
use mathlib.Core.Path.{◌≡◌, refl, sym, ap, ◌∙◌}
use mathlib.Core.Logic.{◌≢◌}
use Prim.Native.Nat.{ℕ, zero, suc, ◌+◌, ◌*◌, ◌<◌}
use native.Mathlib.Nat.{mod-lt}
use native.Mathlib.Decide.{dec_lt}
use native.Mathlib.Omega.{arith}
use mathlib.Core.List.{List}
use lib.ListN.{length}
use lib.Bits.{bit_xor, xor_comm}
use Rattle.lists.specs.Loop.{loop}
use Rattle.lists.specs.Zip.{zip_at}
use Rattle.lists.proofs.Parts.{zip_at_swap}
use Rattle.mixer.proofs.WordLaws.{xor_assoc}
use Rattle.sponge.specs.Sponge.{rand, cell_sum}
use Rattle.sponge.proofs.Output.{length-rand}
use Rattle.settings.specs.Settings.{Settings}
use Rattle.matrix.proofs.Apart.{cell, cell_kept, row_before}
use Rattle.columns.specs.Columns.{Work, work, duplexed, picked_by}
use Rattle.columns.specs.declared.Rows.{Rows}
use Rattle.lane_columns.specs.LaneColumns.{lane_cells, lane_column}
use Rattle.lanes.specs.LaneVisits.{visited_row}
use Rattle.lanes.proofs.AnyOrder.{loops_swap}

-- cells of two rows
cells_apart : (C a b col col' : ℕ) → a ≢ b → col < C → col' < C → a * C + col ≢ b * C + col'
cells_apart C a b col col' ne lt lt' e =
    elim (dec_lt a b) [
      | yes less ↦ omega (arith, row_before a b C less)
      | no ge ↦ omega (arith, row_before b a C (lt_of a b ne ge))
    ]
  where
    lt_of : (x y : ℕ) → x ≢ y → (x < y → ⊥) → y < x
    lt_of x y other past = omega (arith, other, past)

-- the first writes no row that the second one uses
pub record Spares (r r' : Rows) : Type 0 where
  pub row0 : r'.row0.0 ≢ r.row0.0
  pub row1 : r'.row1.0 ≢ r.row0.0
  pub prev0 : r'.prev0.0 ≢ r.row0.0

module _ (S : Settings) where
  abbrev C : ℕ
  C = S.columns

  -- what a column duplexes stays where words are XORed into a cell of the other's row
  cells_stay : (r r' : Rows) → Spares r r' → (col col' col0 : ℕ) → col < C → col' < C → col0 < C → (m words : List ℕ) → length words ≡ 12
      → lane_cells S r' col' col0 (zip_at bit_xor (12 * (r.row0.0 * C + col)) m words) ≡ lane_cells S r' col' col0 m
  unfolding lane_cells
  cells_stay r r' h col col' col0 lt lt' lt0 m words len =
      let stays : (row k : ℕ) → row ≢ r.row0.0 → k < C → cell (row * C + k) (zip_at bit_xor (12 * (r.row0.0 * C + col)) m words) ≡ cell (row * C + k) m =
      λ row k ne less. cell_kept bit_xor (r.row0.0 * C + col) m words len (row * C + k) (cells_apart C row r.row0.0 k col ne less lt) in
      λ i. cell_sum (cell_sum (stays r'.row0.0 col' h.row0 lt' i) (stays r'.prev0.0 col0 h.prev0 lt0 i)) (stays r'.row1.0 col' h.row1 lt' i)

  -- the states of two lanes and the matrix
  record Two : Type 0 where
    mine : List ℕ
    theirs : List ℕ
    matrix : List ℕ

  abbrev on_mine : (Work → Work) → Two → Two
  on_mine f w = let v = f (work w.mine w.matrix) in record { mine = v.state; theirs = w.theirs; matrix = v.matrix }

  abbrev on_theirs : (Work → Work) → Two → Two
  on_theirs f w = let v = f (work w.theirs w.matrix) in record { mine = w.mine; theirs = v.state; matrix = v.matrix }

  -- the state after a column's duplex
  abbrev after : Rows → ℕ → List ℕ → List ℕ → List ℕ
  after r col s m = duplexed S (lane_cells S r col (picked_by S 3 C s) m) s

  module _ (r r' : Rows) (h : Spares r r') (h' : Spares r' r) where
    columns_swap : (col col' : ℕ) → col < C → col' < C → (w : Two) → on_mine (lane_column S r col) (on_theirs (lane_column S r' col') w) ≡ on_theirs (lane_column S r' col') (on_mine (lane_column S r col) w)
    unfolding lane_column
    columns_swap col col' lt lt' w =
        let s = after r col w.mine w.matrix in
        let u = after r' col' w.theirs w.matrix in
        let q = 12 * (r.row0.0 * C + col) in
        let q' = 12 * (r'.row0.0 * C + col') in
        let picked : (x : List ℕ) → picked_by S 3 C x < C = λ x. mod-lt _ (omega arith) in
        let mine : after r col w.mine (zip_at bit_xor q' w.matrix (rand u)) ≡ s =
        ap (λ (cells : List ℕ). duplexed S cells w.mine) (cells_stay r' r h' col' col _ lt' lt (picked w.mine) w.matrix (rand u) (length-rand u)) in
        let theirs : after r' col' w.theirs (zip_at bit_xor q w.matrix (rand s)) ≡ u =
        ap (λ (cells : List ℕ). duplexed S cells w.theirs) (cells_stay r r' h col col' _ lt lt' (picked w.theirs) w.matrix (rand s) (length-rand s)) in
        let turns : (a x y : ℕ) → bit_xor (bit_xor a y) x ≡ bit_xor (bit_xor a x) y = λ a x y. xor_assoc a y x ∙ ap (bit_xor a) (xor_comm y x) ∙ sym (xor_assoc a x y) in
        let written = ap (λ (l : List ℕ). zip_at bit_xor q (zip_at bit_xor q' w.matrix (rand u)) (rand l)) mine
        ∙ zip_at_swap bit_xor bit_xor turns q q' w.matrix (rand s) (rand u)
        ∙ ap (λ (l : List ℕ). zip_at bit_xor q' (zip_at bit_xor q w.matrix (rand s)) (rand l)) (sym theirs) in
        λ i. record { mine = mine i; theirs = sym theirs i; matrix = written i }

    -- whole rows
    mine_row : (n : ℕ) (w : Two) → loop (λ col. on_mine (lane_column S r col)) n w ≡ on_mine (loop (lane_column S r) n) w
    unfolding loop
    mine_row zero w = refl
    mine_row (suc n) w = ap (on_mine (lane_column S r n)) (mine_row n w)

    theirs_row : (n : ℕ) (w : Two) → loop (λ col. on_theirs (lane_column S r' col)) n w ≡ on_theirs (loop (lane_column S r') n) w
    unfolding loop
    theirs_row zero w = refl
    theirs_row (suc n) w = ap (on_theirs (lane_column S r' n)) (theirs_row n w)

    rows_swap : (w : Two) → on_mine (visited_row S r) (on_theirs (visited_row S r') w) ≡ on_theirs (visited_row S r') (on_mine (visited_row S r) w)
    unfolding visited_row
    rows_swap w =
        sym (mine_row C (on_theirs (loop (lane_column S r') C) w)) ∙ ap (loop (λ col. on_mine (lane_column S r col)) C) (sym (theirs_row C w))
        ∙ loops_swap _ _ C C columns_swap w
        ∙ ap (loop (λ col. on_theirs (lane_column S r' col)) C) (mine_row C w) ∙ theirs_row C (on_mine (loop (lane_column S r) C) w)

    -- said of the two lanes' works
    pub visits_swap : (s u m : List ℕ) →
        let v = visited_row S r (work s m) in
        let w = visited_row S r' (work u m) in
        let v' = visited_row S r (work s w.matrix) in
        let w' = visited_row S r' (work u v.matrix) in
        (v'.state ≡ v.state) × (w.state ≡ w'.state) × (v'.matrix ≡ w'.matrix)
    visits_swap s u m =
        let e = rows_swap (record { mine = s; theirs = u; matrix = m }) in
        (ap (λ (t : Two). t.mine) e, ap (λ (t : Two). t.theirs) e, ap (λ (t : Two). t.matrix) e)
