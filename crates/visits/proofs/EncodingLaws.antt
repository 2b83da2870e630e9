-- The encoding and the decoding undo each other: words whatever they are, and visits whose first row and first columns have 16 bits, as those
-- of every walk have. So the used record tells the visits. Assumes nothing.
use mathlib.Core.Path.{◌≡◌, refl, sym, ap, ap₂, ◌∙◌}
use Prim.Native.Nat.{ℕ, zero, suc, ◌*◌, ◌%◌, ◌<◌, ◌≤◌}
use native.Mathlib.Nat.{mod-lt, suc-mul}
use native.Mathlib.Omega.{arith}
use mathlib.Core.List.{List, [], ◌∷◌, ◌++◌}
use lib.ListN.{length, take, drop, length-drop, take-append-drop}
use lib.Seq.{take_at, drop_at, length-take-le}
use Rattle.lists.proofs.Grown.{All, grown_length, grown_all}
use Rattle.packing.specs.Packing.{pair_factor}
use Rattle.packing.proofs.PackingLaws.{low-packed, high-packed, packed-numbers}
use Rattle.settings.specs.Settings.{Settings}
use Rattle.columns.specs.Columns.{Work, picks}
use Rattle.columns.specs.declared.Rows.{Rows}
use Rattle.columns.specs.declared.Picks.{Picks}
use Rattle.visits.specs.Visits.{Walk, Visit, wander, column_picks, visit_columns, picked_rows, visit_data, visits}
use Rattle.visits.specs.Encoding.{encode_picks, encode_visit, encode, decode_picks, decode_visit, decode}
use Rattle.visits.specs.Wandered.{Packable}

pub length-picks : (ps : List Picks) → length (encode_picks ps) ≡ length ps
unfolding encode_picks
length-picks [] = refl
length-picks (p ∷ ps) = omega (arith, length-picks ps)

length-visit : (v : Visit) → length (encode_visit v) ≡ suc (length v.columns)
unfolding encode_visit
length-visit v = omega (arith, length-picks v.columns)

-- ---- visits to words and back

-- the first column has 16 bits
abbrev pub LowPicks : List Picks → Type 0
LowPicks = All (λ p. p.col0.0 < pair_factor)

-- a visit of C columns, whose first row has 16 bits too
pub record LowVisit (C : ℕ) (v : Visit) : Type 0 where
  pub as_many : length v.columns ≡ C
  pub row0_lt : v.row0 < pair_factor
  pub picks_lt : LowPicks v.columns

abbrev pub LowVisits : ℕ → List Visit → Type 0
LowVisits C = All (LowVisit C)

decode-picks : (ps : List Picks) → LowPicks ps → decode_picks (encode_picks ps) ≡ ps
unfolding encode_picks decode_picks
decode-picks [] h = refl
decode-picks (p ∷ ps) h =
    let a = low-packed p.col0.0 p.col1.0 h.0 in
    let b = high-packed p.col0.0 p.col1.0 h.0 in
    let rest = decode-picks ps h.1 in
    λ i. record { col0 = record { 0 = a i }; col1 = record { 0 = b i } } ∷ rest i

decode-visit : {C : ℕ} (v : Visit) → LowVisit C v → decode_visit (encode_visit v) ≡ v
unfolding encode_visit decode_visit
decode-visit v h =
    let a = low-packed v.row0 v.row1 h.row0_lt in
    let b = high-packed v.row0 v.row1 h.row0_lt in
    let rest = decode-picks v.columns h.picks_lt in
    λ i. record { row0 = a i; row1 = b i; columns = rest i }

pub decode-encode : (C : ℕ) (vs : List Visit) → LowVisits C vs → decode C (length vs) (encode vs) ≡ vs
unfolding encode decode
decode-encode C [] h = refl
decode-encode C (v ∷ vs) h =
    let l : length (encode_visit v) ≡ suc C = length-visit v ∙ ap suc h.0.as_many in
    ap₂ (λ (u : Visit) (us : List Visit). u ∷ us)
    (ap decode_visit (take_at (encode_visit v) (encode vs) (suc C) l) ∙ decode-visit v h.0)
    (ap (decode C (length vs)) (drop_at (encode_visit v) (encode vs) (suc C) l) ∙ decode-encode C vs h.1)

-- ---- words to visits and back, whatever the words are

encode_decoded_picks : (words : List ℕ) → encode_picks (decode_picks words) ≡ words
unfolding encode_picks decode_picks
encode_decoded_picks [] = refl
encode_decoded_picks (word ∷ words) = ap₂ (λ (a : ℕ) (l : List ℕ). a ∷ l) (packed-numbers word) (encode_decoded_picks words)

encode_decoded_visit : (words : List ℕ) → 0 < length words → encode_visit (decode_visit words) ≡ words
unfolding encode_visit decode_visit
encode_decoded_visit [] h = absurd (omega arith)
encode_decoded_visit (word ∷ words) h = ap₂ (λ (a : ℕ) (l : List ℕ). a ∷ l) (packed-numbers word) (encode_decoded_picks words)

pub encode-decode : (C n : ℕ) (words : List ℕ) → length words ≡ n * suc C → encode (decode C n words) ≡ words
unfolding encode decode
encode-decode C zero [] l = refl
encode-decode C zero (word ∷ words) l = absurd (omega arith)
encode-decode C (suc n) words l =
    let fits : suc C ≤ length words = omega (arith, suc-mul n (suc C)) in
    let front = length-take-le (suc C) words fits in
    ap₂ (λ (a b : List ℕ). a ++ b)
    (encode_decoded_visit (take (suc C) words) (omega (arith, front)))
    (encode-decode C n (drop (suc C) words) (omega (arith, length-drop (suc C) words, suc-mul n (suc C))))
    ∙ take-append-drop (suc C) words

-- ---- the visits of a walk are such: their rows are below R and their columns below C, of which neither passes 65,536

pub as_many_picks : (S : Settings) (r : Rows) (n : ℕ) (w : Work) → length (column_picks S r n w) ≡ n
unfolding column_picks
as_many_picks S r n w = grown_length (λ k. column_picks S r k w) (λ k. picks S (visit_columns S r k w).state) refl (λ k. refl) n

as_many_visits : (S : Settings) (n : ℕ) (w : Walk) → length (visits S n w) ≡ n
unfolding visits
as_many_visits S n w = grown_length (λ k. visits S k w) (λ k. visit_data S (wander S k w)) refl (λ k. refl) n

below_16_bits : (a n : ℕ) → 0 < n → n ≤ pair_factor → a % n < pair_factor
below_16_bits a n pos most = omega (arith, mod-lt a pos)

module _ (S : Settings) (h : Packable S) where
  low-picks : (r : Rows) (n : ℕ) (w : Work) → LowPicks (column_picks S r n w)
  unfolding column_picks picks
  low-picks r n w =
      grown_all (λ k. column_picks S r k w) (λ k. picks S (visit_columns S r k w).state) refl (λ k. refl) (λ p. p.col0.0 < pair_factor)
      (λ k. below_16_bits _ S.columns h.columns_pos h.columns_most) n

  low-visit : (w : Walk) → LowVisit S.columns (visit_data S w)
  unfolding visit_data picked_rows
  low-visit w =
      record {
        as_many = as_many_picks S (picked_rows S w) S.columns w.done;
        row0_lt = below_16_bits _ S.rows h.rows_pos h.rows_most;
        picks_lt = low-picks (picked_rows S w) S.columns w.done;
      }

  pub low-visits : (n : ℕ) (w : Walk) → LowVisits S.columns (visits S n w)
  unfolding visits
  low-visits n w =
      grown_all (λ k. visits S k w) (λ k. visit_data S (wander S k w)) refl (λ k. refl) (LowVisit S.columns) (λ k. low-visit (wander S k w)) n

  -- what a walk's record tells is its visits
  pub decode-visits : (n : ℕ) (w : Walk) → decode S.columns n (encode (visits S n w)) ≡ visits S n w
  decode-visits n w =
      ap (λ (k : ℕ). decode S.columns k (encode (visits S n w))) (sym (as_many_visits S n w))
      ∙ decode-encode S.columns (visits S n w) (low-visits n w)
