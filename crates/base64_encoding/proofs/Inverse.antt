-- Encoding and decoding are each other's inverse. Both are told by groups of 24 bits: a group of the encoded text is the group of the bytes, and
-- a group of the decoded bytes is the group of the text, past their ends too, where the bits are zero. Assumes nothing.
use mathlib.Core.Path.{◌≡◌, sym, ap, ap₂, ◌∙◌}
use mathlib.Core.Bool.{true}
use Prim.Native.Nat.{ℕ, suc, ◌+◌, ◌*◌, ◌-◌, ◌/◌, ◌%◌, ◌^◌, ◌≤◌, ◌<◌}
use native.Mathlib.Nat.{zero-mod}
use native.Mathlib.Decide.{dec_le, dec_lt}
use native.Mathlib.Omega.{arith}
use mathlib.Core.List.{List}
use lib.ListN.{length, get_or}
use lib.Seq.{ext_get_or}
use Rattle.lists.proofs.Parts.{get_or-inside}
use Rattle.base64_letters.specs.Letters.{letter}
use Rattle.base64_letters.proofs.LetterLaws.{letter_value}
use Rattle.base64_encoding.specs.Base64.{three, sextet, encoded_length, encode, value_at, four, octet, decoded_length, decode, unused, is_text}
use Rattle.base64_encoding.proofs.Groups.{by_threes, by_fours, number_4_small, digit_4, number_of_digits_4, number_3_small, digit_3, number_of_digits_3}
use Rattle.base64_encoding.proofs.Elements.{length-encode, length-decode, get_or-encode, get_or-decode, past_byte, past_value, sextet_at, octet_at}
use Rattle.base64_encoding.proofs.Texts.{Text, text_is, value_encode}

-- ---- bytes to text and back

module _ (l : List ℕ) (bytes : (i : ℕ) → get_or l i 0 < 256) where
  four-encode : (g : ℕ) → four (encode l) g ≡ three l g
  unfolding four three
  four-encode g =
      simp (
        value_encode l,
        sextet_at l g 0 {i = 4 * g} (omega arith) (omega arith),
        sextet_at l g 1 {i = 4 * g + 1} (omega arith) (omega arith),
        sextet_at l g 2 {i = 4 * g + 2} (omega arith) (omega arith),
        sextet_at l g 3 {i = 4 * g + 3} (omega arith) (omega arith),
      )
      (number_of_digits_4 (three l g) (number_3_small (λ i. get_or l i 0) bytes g))

  octet-encode : (j : ℕ) → octet (encode l) j ≡ get_or l j 0
  unfolding octet three
  octet-encode j = ap (λ (x : ℕ). x / 256 ^ (2 - j % 3) % 256) (four-encode (j / 3)) ∙ digit_3 (λ i. get_or l i 0) bytes j

pub decode-encode : (l : List ℕ) → ((i : ℕ) → get_or l i 0 < 256) → decode (encode l) ≡ l
unfolding encoded_length decoded_length
decode-encode l bytes =
    let whole : decoded_length (length (encode l)) ≡ length l = omega (arith, length-encode l) in
    ext_get_or 0 (decode (encode l)) l (length-decode (encode l) ∙ whole)
    (λ j h. get_or-decode (encode l) j (omega (arith, length-decode (encode l))) ∙ octet-encode l bytes j)

-- ---- text to bytes and back

module _ (m : ℕ) (whole : m % 4 ≡ 1 → ⊥) where
  encoded_decoded : encoded_length (decoded_length m) ≡ m
  unfolding encoded_length decoded_length
  encoded_decoded =
      by_fours (λ m. (m % 4 ≡ 1 → ⊥) → encoded_length (decoded_length m) ≡ m) (λ g h. omega arith) (λ g h. absurd (h (omega arith)))
      (λ g h. omega arith) (λ g h. omega arith) m whole

  -- a group that has no byte has no letter
  no_letter : (g : ℕ) → decoded_length m ≤ 3 * g → m ≤ 4 * g
  unfolding decoded_length
  no_letter g =
      by_fours (λ m. (m % 4 ≡ 1 → ⊥) → decoded_length m ≤ 3 * g → m ≤ 4 * g) (λ q h l. omega arith) (λ q h l. absurd (h (omega arith)))
      (λ q h l. omega arith) (λ q h l. omega arith) m whole

module _ (t : List ℕ) (text : Text t) where
  -- the last letter of a short group, or what is read past the end in its place

  clear_last : (g k u : ℕ) → (length t ≡ 4 * g + suc k → unused (length t) ≡ u) → length t ≤ 4 * g + suc k → value_at t (4 * g + k) % u ≡ 0
  clear_last g k u kind h =
      elim (dec_le (length t) (4 * g + k)) [
        | yes short ↦ ap (λ (v : ℕ). v % u) (past_value t (4 * g + k) short) ∙ zero-mod u
        | no full ↦
            let last : length t - 1 ≡ 4 * g + k = omega arith in
            ap₂ (λ (i d : ℕ). value_at t i % d) (sym last) (sym (kind (omega arith))) ∙ text.clear
      ]

  clear_2 : (g : ℕ) → length t ≤ 4 * g + 2 → value_at t (4 * g + 1) % 16 ≡ 0
  unfolding unused
  clear_2 g h = clear_last g 1 16 (λ e. let two : length t % 4 ≡ 2 = rw e (omega arith) in rw two) h

  clear_3 : (g : ℕ) → length t ≤ 4 * g + 3 → value_at t (4 * g + 2) % 4 ≡ 0
  unfolding unused
  clear_3 g h = clear_last g 2 4 (λ e. let three : length t % 4 ≡ 3 = rw e (omega arith) in rw three) h

  -- past the end of the bytes the bits are zero
  past_octet : (j : ℕ) → decoded_length (length t) ≤ j → octet t j ≡ 0
  unfolding decoded_length four
  past_octet =
      let none = past_value t in
      by_threes (λ j. decoded_length (length t) ≤ j → octet t j ≡ 0)
      (λ g h.
      let short : length t ≤ 4 * g = no_letter (length t) text.whole g h in
      octet_at t g 0 (omega arith) (omega arith)
      ∙ omega (arith, none (4 * g) (omega arith), none (4 * g + 1) (omega arith), none (4 * g + 2) (omega arith), none (4 * g + 3) (omega arith)))
      (λ g h.
      octet_at t g 1 (omega arith) (omega arith)
      ∙ omega (arith, clear_2 g (omega arith), none (4 * g + 2) (omega arith), none (4 * g + 3) (omega arith)))
      (λ g h. octet_at t g 2 (omega arith) (omega arith) ∙ omega (arith, clear_3 g (omega arith), none (4 * g + 3) (omega arith)))

  byte_decode : (j : ℕ) → get_or (decode t) j 0 ≡ octet t j
  byte_decode j =
      elim (dec_lt j (decoded_length (length t))) [
        | yes inside ↦ get_or-decode t j inside
        | no past ↦ past_byte (decode t) j (omega (arith, length-decode t)) ∙ sym (past_octet j (omega arith))
      ]

  three-decode : (g : ℕ) → three (decode t) g ≡ four t g
  unfolding three four
  three-decode g =
      simp (
        byte_decode,
        octet_at t g 0 {j = 3 * g} (omega arith) (omega arith),
        octet_at t g 1 {j = 3 * g + 1} (omega arith) (omega arith),
        octet_at t g 2 {j = 3 * g + 2} (omega arith) (omega arith),
      )
      (number_of_digits_3 (four t g) (number_4_small (value_at t) text.letters g))

  sextet-decode : (i : ℕ) → sextet (decode t) i ≡ value_at t i
  unfolding sextet four
  sextet-decode i = ap (λ (x : ℕ). x / 64 ^ (3 - i % 4) % 64) (three-decode (i / 4)) ∙ digit_4 (value_at t) text.letters i

  letter-decode : (i : ℕ) → letter (sextet (decode t) i) ≡ get_or t i 65
  unfolding value_at
  letter-decode i = ap letter (sextet-decode i) ∙ letter_value (get_or t i 65) (text.letters i)

pub encode-decode : (t : List ℕ) → is_text t ≡ true → encode (decode t) ≡ t
encode-decode t h =
    let text = text_is t h in
    let long : length (encode (decode t)) ≡ length t =
    length-encode (decode t) ∙ ap encoded_length (length-decode t) ∙ encoded_decoded (length t) text.whole in
    ext_get_or 0 (encode (decode t)) t long
    (λ i inside.
    get_or-encode (decode t) i (omega (arith, length-encode (decode t))) ∙ letter-decode t text i ∙ get_or-inside t i 65 0 (omega arith))
