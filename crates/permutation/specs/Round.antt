-- The round and n rounds, and their inverses.
use Rattle.std.specs.Prelude.{ℕ, zero, suc, ◌<◌, length, get_or, set}
use mathlib.Core.List.{List, foldl, foldr}
unfoldable pub use Rattle.mixer.specs.G.{G, un_g}
use Rattle.mixer.specs.declared.Words.{Words}
use Rattle.profile.specs.declared.Quad.{Quad}
use Rattle.profile.specs.Profile.{quads}

-- four positions of the state
abbrev pub Inside : Quad → Type 0
Inside q = (q.0 < 16) × (q.1 < 16) × (q.2 < 16) × (q.3 < 16)

-- what stands past the end of a list of quads
abbrev pub none : Quad
none = record { 0 = 0; 1 = 0; 2 = 0; 3 = 0 }

-- the words of a state at four positions
unfoldable pub words_at : Quad → List ℕ → Words
words_at q s = record { a = get_or s q.0 0; b = get_or s q.1 0; c = get_or s q.2 0; d = get_or s q.3 0 }

-- a state with four words put at four positions
unfoldable pub put_words : Quad → Words → List ℕ → List ℕ
put_words q w s = set (set (set (set s q.0 w.a) q.1 w.b) q.2 w.c) q.3 w.d

-- a function of four words on those at four positions
unfoldable pub apply_at : (Words → Words) → Quad → List ℕ → List ℕ
apply_at f q s = put_words q (f (words_at q s)) s

-- a function at each quad of a list in turn
abbrev pub at_all : (Words → Words) → List ℕ → List Quad → List ℕ
at_all f s qs = foldl (λ t q. apply_at f q t) s qs

-- all quads of a list are positions of the state
abbrev pub AllInside : List Quad → Type 0
AllInside qs = (n : ℕ) → n < length qs → Inside (get_or qs n none)

-- G on each quad in turn
unfoldable pub round : (ℕ → ℕ → ℕ) → List ℕ → List ℕ
round sum s = at_all (G sum) s quads

unfoldable pub rounds : (ℕ → ℕ → ℕ) → ℕ → List ℕ → List ℕ
rounds sum zero s = s
rounds sum (suc n) s = round sum (rounds sum n s)

-- ---- the inverses

-- the last quad first
unfoldable pub unround : (ℕ → ℕ → ℕ) → List ℕ → List ℕ
unround back s = foldr (apply_at (un_g back)) s quads

unfoldable pub unrounds : (ℕ → ℕ → ℕ) → ℕ → List ℕ → List ℕ
unrounds back zero s = s
unrounds back (suc n) s = unrounds back n (unround back s)
