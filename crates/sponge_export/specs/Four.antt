-- The four words of G as a list, in the order a, b, c, d.
use Rattle.std.specs.Prelude.{ℕ, List, [], ◌∷◌, get_or}
use Rattle.mixer.specs.declared.Words.{Words}

abbrev pub words : List ℕ → Words
words l = record { a = get_or l 0 0; b = get_or l 1 0; c = get_or l 2 0; d = get_or l 3 0 }

abbrev pub four : Words → List ℕ
four w = w.a ∷ w.b ∷ w.c ∷ w.d ∷ []
