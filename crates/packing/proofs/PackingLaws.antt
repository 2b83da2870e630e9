-- Packed numbers and their word tell each other: every word is that of its two numbers, and two numbers are those of their word where the
-- first is below the factor. Assumes nothing.
use mathlib.Core.Path.{◌≡◌}
use Prim.Native.Nat.{ℕ, ◌<◌}
use native.Mathlib.Omega.{arith}
use Rattle.packing.specs.Packing.{pair_factor, packed, low_of, high_of}

pub low-packed : (low high : ℕ) → low < pair_factor → low_of (packed low high) ≡ low
low-packed low high h = omega arith

pub high-packed : (low high : ℕ) → low < pair_factor → high_of (packed low high) ≡ high
high-packed low high h = omega arith

pub packed-numbers : (word : ℕ) → packed (low_of word) (high_of word) ≡ word
packed-numbers word = omega arith
