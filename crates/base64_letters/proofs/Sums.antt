-- The sums by which the code finds a letter and a value, without a branch, are the definitions'. Assumes nothing.
use mathlib.Core.Path.{◌≡◌, refl}
use mathlib.Core.Bool.{cond, ◌&&◌}
use Prim.Native.Nat.{ℕ, ◌+◌, ◌*◌, ◌-◌, ◌/◌, ◌%◌, ◌<◌}
use lib.Dec.{ltb, leb, eqb}
use borrow.Author.Tests.{eqb-true}
use Rattle.base64_letters.specs.Letters.{letter, value_of}
use Rattle.base64_letters.proofs.Table.{at}

-- 1 where `from` is at most x, else 0
abbrev step : ℕ → ℕ → ℕ
step x from = (x + 256 - from) / 256

abbrev letter_sum_lem : ℕ → ℕ
letter_sum_lem v = v + 65 + 6 * step v 26 - 75 * step v 52 - 15 * step v 62 + 3 * step v 63

pub letter_sum : (v : ℕ) → v < 64 → letter_sum_lem v ≡ letter v
unfolding letter
letter_sum v h = eqb-true _ _ (at (λ v. eqb (letter_sum_lem v) (letter v)) 64 refl v h)

abbrev below : ℕ → ℕ → ℕ → ℕ → ℕ
below b from to top = cond (leb from b && ltb b to) (top - b) 0

abbrev value_sum_lem : ℕ → ℕ
value_sum_lem b = (64 + 1280 - below b 65 91 129 - below b 97 123 135 - below b 48 58 60 - below b 43 44 45 - below b 47 48 48) % 256

pub value_sum : (b : ℕ) → b < 256 → value_sum_lem b ≡ value_of b
unfolding value_of
value_sum b h = eqb-true _ _ (at (λ b. eqb (value_sum_lem b) (value_of b)) 256 refl b h)
