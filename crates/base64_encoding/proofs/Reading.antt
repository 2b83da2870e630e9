-- The library's test of every letter. Assumes nothing.
use mathlib.Core.Path.{◌≡◌, refl, ap}
use mathlib.Core.Bool.{Bool, ◌&&◌}
use Prim.Native.Nat.{ℕ}
use mathlib.Core.List.{List, [], ◌∷◌}
use Rattle.std.specs.List.{list_all}
use Rattle.lists.specs.Every.{every}
use Rattle.base64_encoding.specs.Base64.{is_letter, all_letters}

pub all_letters_is : (t : List ℕ) → list_all is_letter t ≡ all_letters t
unfolding every
all_letters_is [] = refl
all_letters_is (b ∷ t) = ap (λ (rest : Bool). is_letter b && rest) (all_letters_is t)
