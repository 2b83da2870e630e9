-- The mixers (request 107): the plain one and BlaMka, each by its addition and what undoes that.
use Rattle.std.specs.Prelude.{ℕ, ◌+◌, ◌-◌, ◌*◌, ◌%◌, ◌^◌, Bool, true, false}
use Rattle.mixer.specs.Word.{Addition, plain, difference}
use Rattle.mixer.specs.declared.Mixer.{Mixer}
use Rattle.mixer.specs.declared.Mixer.TheVariants.{Plain, BlaMka}

-- lo: the low 32 bits of a word
abbrev pub low : ℕ → ℕ
low x = x % 2 ^ 32

abbrev pub doubled_product : ℕ → ℕ → ℕ
doubled_product a b = 2 * (low a * low b)

-- a + b + 2·lo(a)·lo(b), its carries out of bit 63 dropped
unfoldable pub blamka_sum : ℕ → ℕ → ℕ
blamka_sum a b = (a + b + doubled_product a b) % 2 ^ 64

-- ---- BlaMka's addition undone

-- For an odd u, the x with u·x + 1 a multiple of 2^32. Of x = 1 it is a multiple of 2, and a step squares it.
abbrev pub square_step : ℕ → ℕ → ℕ
square_step u x = low (x * low (u * x + 2))

unfoldable pub negated_inverse : ℕ → ℕ
negated_inverse u = square_step u (square_step u (square_step u (square_step u (square_step u 1))))

-- lo(a) from b and y, the sum of a and b: lo(y) is lo(a)·(1 + 2·lo(b)) + lo(b) modulo 2^32
unfoldable pub low_back : ℕ → ℕ → ℕ
low_back y b = low (negated_inverse (low (1 + 2 * low b)) * low (low b + (2 ^ 32 - low y)))

-- then a, by differences
unfoldable pub blamka_back : ℕ → ℕ → ℕ
blamka_back y b = difference (difference y b) (doubled_product (low_back y b) b % 2 ^ 64)

abbrev pub blamka : Addition
blamka = record { sum = blamka_sum; back = blamka_back }

-- ---- the choice
abbrev pub addition_of : Mixer → Addition
addition_of Plain = plain
addition_of BlaMka = blamka

abbrev pub sum_of : Mixer → ℕ → ℕ → ℕ
sum_of x = (addition_of x).sum

-- by a word of two values, which is BlaMka's where it is true
abbrev pub mixer_of : Bool → Mixer
mixer_of true = BlaMka
mixer_of false = Plain
