-- The visit record: visits as words, and the visits of any words.
use Rattle.std.specs.Prelude.{ℕ, zero, suc, List, [], ◌∷◌, ◌++◌, take, drop}
use Rattle.packing.specs.Packing.{packed, low_of, high_of}
use Rattle.columns.specs.declared.Picks.{Picks}
use Rattle.visits.specs.Visits.{Visit}

-- a word for each column: col0, with col1 above it
unfoldable pub encode_picks : List Picks → List ℕ
encode_picks [] = []
encode_picks (p ∷ ps) = packed p.col0.0 p.col1.0 ∷ encode_picks ps

-- a word of row0, with row1 above it, then the columns
unfoldable pub encode_visit : Visit → List ℕ
encode_visit v = packed v.row0 v.row1 ∷ encode_picks v.columns

unfoldable pub encode : List Visit → List ℕ
encode [] = []
encode (v ∷ vs) = encode_visit v ++ encode vs

-- ---- back, whatever the words are: a number that no derivation writes is read as it stands

unfoldable pub decode_picks : List ℕ → List Picks
decode_picks [] = []
decode_picks (word ∷ words) = record { col0 = record { 0 = low_of word }; col1 = record { 0 = high_of word } } ∷ decode_picks words

unfoldable pub decode_visit : List ℕ → Visit
decode_visit [] = record { row0 = 0; row1 = 0; columns = [] }
decode_visit (word ∷ words) = record { row0 = low_of word; row1 = high_of word; columns = decode_picks words }

-- n visits of C columns each
unfoldable pub decode : ℕ → ℕ → List ℕ → List Visit
decode C zero words = []
decode C (suc n) words = decode_visit (take (suc C) words) ∷ decode C n (drop (suc C) words)
