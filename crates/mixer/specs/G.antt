-- G and its inverse. The addition is a parameter; the profile's is plain_sum.
use Rattle.std.specs.Prelude.{ℕ, ◌-◌, bit_xor}
use Rattle.mixer.specs.Word.{turn_right}
use Rattle.mixer.specs.declared.Words.{Words}

-- half of G, with the distances of its two turns
unfoldable pub half_g : (ℕ → ℕ → ℕ) → ℕ → ℕ → Words → Words
half_g sum m n w =
    let a = sum w.a w.b in
    let d = turn_right m (bit_xor w.d a) in
    let c = sum w.c d in
    let b = turn_right n (bit_xor w.b c) in
    record { a = a; b = b; c = c; d = d }

unfoldable pub G : (ℕ → ℕ → ℕ) → Words → Words
G sum w = half_g sum 16 63 (half_g sum 32 24 w)

-- half_g undone, its last step first
unfoldable pub un_half_g : (ℕ → ℕ → ℕ) → ℕ → ℕ → Words → Words
un_half_g back m n w =
    let b = bit_xor (turn_right (64 - n) w.b) w.c in
    let c = back w.c w.d in
    let d = bit_xor (turn_right (64 - m) w.d) w.a in
    let a = back w.a b in
    record { a = a; b = b; c = c; d = d }

unfoldable pub un_g : (ℕ → ℕ → ℕ) → Words → Words
un_g back w = un_half_g back 32 24 (un_half_g back 16 63 w)
