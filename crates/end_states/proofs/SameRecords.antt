-- The packed record says what the unpacked one said: of two accepted recorded derivations the used records are equal exactly when the ones
-- of before request 108 would have been, and a used record decodes to the visits. Rows are below R and columns below C, which refusals 5 and
-- 6 keep far below 65,536, so a word is known by its two numbers and they by it. Assumes nothing.
use mathlib.Core.Path.{◌≡◌, refl, sym, ap, ap₂, ◌∙◌}
use mathlib.Core.Logic.{◌↔◌}
use Prim.Native.Nat.{ℕ, ◌+◌, ◌*◌, ◌<◌}
use native.Mathlib.Omega.{arith}
use mathlib.Core.List.{List, [], ◌∷◌, ◌++◌}
use lib.ListN.{length}
use Rattle.packing.specs.Packing.{pair_factor, packed, low_of, high_of}
use Rattle.packing.proofs.PackingLaws.{low-packed, high-packed}
use Rattle.settings.specs.Settings.{settings}
use Rattle.settings.specs.Sizes.{visit_count}
use Rattle.settings.specs.declared.Parameters.{Parameters}
use Rattle.columns.specs.declared.Picks.{Picks}
use Rattle.visits.specs.Visits.{Visit}
use Rattle.visits.specs.Encoding.{encode_picks, encode_visit, encode, decode}
use Rattle.visits.proofs.EncodingLaws.{LowPicks, LowVisits, low-visits, decode-visits}
use Rattle.visits.proofs.Recording.{length-visits}
use Rattle.derivation.specs.Derivation.{end_record}
use Rattle.end_states.specs.EndStates.{End, end_of}
use Rattle.end_states.specs.Trials.{Trial, left_by}
use Rattle.end_states.specs.Unpacked.{unpacked_picks, unpacked_visit, unpacked, visits_of, unpacked_record}
use Rattle.end_states.proofs.Demand3.{packable_of, end_of_lem}

-- ---- from numbers to words, two by two

pairs : List ℕ → List ℕ
pairs [] = []
pairs (a ∷ []) = []
pairs (a ∷ b ∷ l) = packed a b ∷ pairs l

pairs_picks : (ps : List Picks) (l : List ℕ) → pairs (unpacked_picks ps ++ l) ≡ encode_picks ps ++ pairs l
unfolding unpacked_picks encode_picks pairs
pairs_picks [] l = refl
pairs_picks (p ∷ ps) l = ap (λ (k : List ℕ). packed p.col0.0 p.col1.0 ∷ k) (pairs_picks ps l)

pairs_visits : (vs : List Visit) → pairs (unpacked vs) ≡ encode vs
unfolding unpacked unpacked_visit encode encode_visit pairs
pairs_visits [] = refl
pairs_visits (v ∷ vs) =
    ap (λ (k : List ℕ). packed v.row0 v.row1 ∷ k)
    (pairs_picks v.columns (unpacked vs) ∙ ap (λ (k : List ℕ). encode_picks v.columns ++ k) (pairs_visits vs))

-- ---- and from words to numbers

numbers : List ℕ → List ℕ
numbers [] = []
numbers (word ∷ words) = low_of word ∷ high_of word ∷ numbers words

numbers-packed : (low high : ℕ) → low < pair_factor → (words : List ℕ) → numbers (packed low high ∷ words) ≡ low ∷ high ∷ numbers words
unfolding numbers
numbers-packed low high h words = ap₂ (λ (a b : ℕ). a ∷ b ∷ numbers words) (low-packed low high h) (high-packed low high h)

numbers-picks : (ps : List Picks) → LowPicks ps → (words : List ℕ) → numbers (encode_picks ps ++ words) ≡ unpacked_picks ps ++ numbers words
unfolding unpacked_picks encode_picks
numbers-picks [] h words = refl
numbers-picks (p ∷ ps) h words =
    numbers-packed p.col0.0 p.col1.0 h.0 (encode_picks ps ++ words)
    ∙ ap (λ (k : List ℕ). p.col0.0 ∷ p.col1.0 ∷ k) (numbers-picks ps h.1 words)

numbers-visits : (C : ℕ) (vs : List Visit) → LowVisits C vs → numbers (encode vs) ≡ unpacked vs
unfolding unpacked unpacked_visit encode encode_visit numbers
numbers-visits C [] h = refl
numbers-visits C (v ∷ vs) h =
    numbers-packed v.row0 v.row1 h.0.row0_lt (encode_picks v.columns ++ encode vs)
    ∙ ap (λ (k : List ℕ). v.row0 ∷ v.row1 ∷ k)
    (numbers-picks v.columns h.0.picks_lt (encode vs) ∙ ap (λ (k : List ℕ). unpacked_picks v.columns ++ k) (numbers-visits C vs h.1))

length-numbers : (words : List ℕ) → length (numbers words) ≡ 2 * length words
unfolding numbers
length-numbers [] = refl
length-numbers (word ∷ words) = omega (arith, length-numbers words)

-- ---- trials

module _ {p : Parameters} (x : Trial p) where
  used_record : (left_by x).visited ≡ encode (visits_of x)
  unfolding end_of end_record
  used_record = ap (λ (e : End). e.visited) (end_of_lem x)

  pub record_tells_visits : decode p.columns (visit_count (settings p)) (left_by x).visited ≡ visits_of x
  record_tells_visits = ap (decode p.columns (visit_count (settings p))) used_record ∙ decode-visits (settings p) (packable_of x) (visit_count (settings p)) _

  from-packed : numbers (left_by x).visited ≡ unpacked_record x
  from-packed = ap numbers used_record ∙ numbers-visits p.columns (visits_of x) (low-visits (settings p) (packable_of x) (visit_count (settings p)) _)

  -- it was twice as long
  pub unpacked-words : length (unpacked_record x) ≡ visit_count (settings p) * (2 + 2 * p.columns)
  unpacked-words =
      let packed-words = ap length used_record ∙ length-visits (settings p) _ (visit_count (settings p)) in
      omega (arith, ap length from-packed, length-numbers (left_by x).visited, packed-words)

  from-unpacked : pairs (unpacked_record x) ≡ (left_by x).visited
  from-unpacked = pairs_visits (visits_of x) ∙ sym used_record

-- the theorem; not even T, R and C need to be the same
pub records_equal_as_before : (p q : Parameters) (x : Trial p) (y : Trial q) → ((left_by x).visited ≡ (left_by y).visited) ↔ (unpacked_record x ≡ unpacked_record y)
records_equal_as_before p q x y = (
  λ e. sym (from-packed x) ∙ ap numbers e ∙ from-packed y,
  λ e. sym (from-unpacked x) ∙ ap pairs e ∙ from-unpacked y,
)
