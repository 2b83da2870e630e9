-- BlaMka's addition of edge words, undone again, and G with it, each worked out by another program. Assumes nothing.
use mathlib.Core.Path.{◌≡◌, refl}
use Prim.Native.Nat.{ℕ, ◌-◌, ◌^◌}
use Rattle.mixer.specs.Word.{turn_right}
use Rattle.mixer.specs.Mixers.{blamka_sum, blamka_back, low_back, negated_inverse}
use Rattle.mixer.specs.G.{G, half_g}
use Rattle.statements.specs.BenchCases.{four}

-- y is the sum of a and b, and a is found again
abbrev Adds : ℕ → ℕ → ℕ → Type 0
Adds a b y = (blamka_sum a b ≡ y) × (blamka_back y b ≡ a)

pub of_ones : Adds 1 1 4
unfolding blamka_sum blamka_back low_back negated_inverse
of_ones = (refl, refl)

pub of_full_halves : Adds (2 ^ 32 - 1) (2 ^ 32 - 1) 0xfffffffe00000000
unfolding blamka_sum blamka_back low_back negated_inverse
of_full_halves = (refl, refl)

-- low halves of zero have no product
pub of_highest_bits : Adds (2 ^ 63) (2 ^ 63) 0
unfolding blamka_sum blamka_back low_back negated_inverse
of_highest_bits = (refl, refl)

pub of_largest_words : Adds (2 ^ 64 - 1) (2 ^ 64 - 1) 0xfffffffc00000000
unfolding blamka_sum blamka_back low_back negated_inverse
of_largest_words = (refl, refl)

pub G_of_one : G blamka_sum (four 1 0 0 0) ≡ four 0x301 0x0602000200020200 0x0301000100010000 0x0301000000010000
unfolding G half_g turn_right blamka_sum
G_of_one = refl

pub G_of_largest_words : G blamka_sum (four (2 ^ 64 - 1) (2 ^ 64 - 1) (2 ^ 64 - 1) (2 ^ 64 - 1))
    ≡ four 0x3fbfffffb00 0xe61bf809c845f607 0xf30dfffb1bdd0003 0xfb03fffffc04ffff
unfolding G half_g turn_right blamka_sum
G_of_largest_words = refl
