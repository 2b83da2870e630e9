-- The packed record on small cases: a visit of the greatest rows and columns, words that no derivation writes, and the shortest record that
-- is taken. Assumes nothing.
use mathlib.Core.Path.{◌≡◌, refl}
use Prim.Native.Nat.{ℕ, ◌+◌, ◌-◌, ◌^◌}
use mathlib.Core.List.{List, [], ◌∷◌}
use Rattle.settings.specs.Settings.{usual}
use Rattle.columns.specs.declared.Picks.{Picks}
use Rattle.visits.specs.Visits.{Visit}
use Rattle.visits.specs.Encoding.{encode_picks, encode_visit, encode, decode_picks, decode_visit, decode}
use Rattle.refusals.specs.Checks.{first, cost_checks, plain_checks, recorded_checks}

abbrev picks_of : ℕ → ℕ → Picks
picks_of col0 col1 = record { col0 = record { 0 = col0 }; col1 = record { 0 = col1 } }

-- words are the record of visits, and tell them
abbrev Records : ℕ → ℕ → List Visit → List ℕ → Type 0
Records C n vs words = (encode vs ≡ words) × (decode C n words ≡ vs)

pub greatest-visit : Records 2 1 (record { row0 = 16383; row1 = 16382; columns = picks_of 255 254 ∷ picks_of 0 1 ∷ [] } ∷ []) (0x3ffe3fff ∷ 0xfe00ff ∷ 0x10000 ∷ [])
unfolding encode encode_visit encode_picks decode decode_visit decode_picks
greatest-visit = (refl, refl)

-- no bit is overlooked: row1 and col1 take what stands above their places, and are then no row and no column
pub high_bits : Records 1 1 (record { row0 = 1; row1 = 65536; columns = picks_of 65535 (2 ^ 48 - 1) ∷ [] } ∷ []) ((2 ^ 32 + 1) ∷ (2 ^ 64 - 1) ∷ [])
unfolding encode encode_visit encode_picks decode decode_visit decode_picks
high_bits = (refl, refl)

-- R = 3, T = 1, C = 1: a record of 5 words is refused, one of 6 is taken
abbrev answer : ℕ → ℕ
answer words = first (recorded_checks (record { key = 32; password = 0; salt = 8 }) (usual (record { time = 1; rows = 3; columns = 1 })) 36 words)

pub six_words : (answer 5 ≡ 8) × (answer 6 ≡ 0)
unfolding first cost_checks plain_checks recorded_checks
six_words = (refl, refl)
