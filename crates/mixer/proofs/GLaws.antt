-- G by its steps; it takes words to words and is undone by its inverse, for every addition that can be undone. Assumes nothing.
use Rattle.std.proofs.Common.{◌≡◌, ℕ, ◌-◌, ◌^◌, ◌<◌, ◌≤◌, ap, ◌∙◌, arith}
use lib.Bits.{bit_xor, xor_lt}
use Rattle.mixer.specs.Word.{turn_right, Addition, Undoes}
use Rattle.mixer.specs.declared.Words.{Words}
use Rattle.mixer.specs.G.{half_g, G, un_half_g, un_g}
use Rattle.mixer.proofs.WordLaws.{xor_undo, turn_word, turn_undo}

-- the four steps of a half, one after another
pub half_g_steps : (sum : ℕ → ℕ → ℕ) (m n : ℕ) (w : Words) (a b c d : ℕ) → a ≡ sum w.a w.b → d ≡ turn_right m (bit_xor w.d a)
    → c ≡ sum w.c d → b ≡ turn_right n (bit_xor w.b c) → ◌≡◌ {A = Words} (record { a = a; b = b; c = c; d = d }) (half_g sum m n w)
unfolding half_g
half_g_steps sum m n w a b c d ea ed ec eb = cc

-- four words
pub record FourWords (w : Words) : Type 0 where
  pub a : w.a < 2 ^ 64
  pub b : w.b < 2 ^ 64
  pub c : w.c < 2 ^ 64
  pub d : w.d < 2 ^ 64

turned_word : (n : ℕ) → n ≤ 64 → (x y : ℕ) → x < 2 ^ 64 → y < 2 ^ 64 → turn_right n (bit_xor x y) < 2 ^ 64
turned_word n hn x y hx hy = turn_word n (64 - n) (omega arith) (bit_xor x y) (xor_lt 64 x y hx hy)

-- an XOR and a turn are undone by the other turn and the same XOR
turned_undo : (n : ℕ) → n ≤ 64 → (x y : ℕ) → x < 2 ^ 64 → y < 2 ^ 64 → bit_xor (turn_right (64 - n) (turn_right n (bit_xor x y))) y ≡ x
turned_undo n hn x y hx hy =
    ap (λ (z : ℕ). bit_xor z y) (turn_undo n (64 - n) (omega arith) (bit_xor x y) (xor_lt 64 x y hx hy)) ∙ xor_undo x y

-- ---- G

module _ {A : Addition} (u : Undoes A) (m n : ℕ) (hm : m ≤ 64) (hn : n ≤ 64) where
  half_g-words : (w : Words) → FourWords w → FourWords (half_g A.sum m n w)
  unfolding half_g
  half_g-words w h =
      let ha = u.sum_word w.a w.b h.a h.b in
      let hd = turned_word m hm w.d _ h.d ha in
      let hc = u.sum_word w.c _ h.c hd in
      record { a = ha; b = turned_word n hn w.b _ h.b hc; c = hc; d = hd }

  half_g_undo : (w : Words) → FourWords w → un_half_g A.back m n (half_g A.sum m n w) ≡ w
  unfolding half_g un_half_g
  half_g_undo w h =
      let out = half_g-words w h in
      let eb = turned_undo n hn w.b _ h.b out.c in
      let ea = ap (A.back _) eb ∙ u.sum_back w.a w.b h.a h.b in
      λ i. record { a = ea i; b = eb i; c = u.sum_back w.c _ h.c out.d i; d = turned_undo m hm w.d _ h.d out.a i }

module _ {A : Addition} (u : Undoes A) where
  pub G-words : (w : Words) → FourWords w → FourWords (G A.sum w)
  unfolding G
  G-words w h =
      half_g-words u 16 63 (omega arith) (omega arith) _ (half_g-words u 32 24 (omega arith) (omega arith) w h)

  pub G_undo : (w : Words) → FourWords w → un_g A.back (G A.sum w) ≡ w
  unfolding G un_g
  G_undo w h =
      ap (un_half_g A.back 32 24)
      (half_g_undo u 16 63 (omega arith) (omega arith) _ (half_g-words u 32 24 (omega arith) (omega arith) w h))
      ∙ half_g_undo u 32 24 (omega arith) (omega arith) w h
