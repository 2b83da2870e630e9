-- What is so of a text of base 64: every value is below 64, no letter is left over, the unused bits are zero, and it holds no `$`. What is
-- encoded is such a text. Assumes nothing.
use mathlib.Core.Path.{◌≡◌, refl, sym, ap, ap₂, ◌∙◌}
use mathlib.Core.Bool.{true, false, not, ◌&&◌, and-eq-true_iff}
use Prim.Native.Nat.{ℕ, zero, suc, ◌+◌, ◌*◌, ◌-◌, ◌%◌, ◌≤◌, ◌<◌}
use native.Mathlib.Decide.{dec_lt}
use native.Mathlib.Omega.{arith}
use mathlib.Core.List.{List, [], ◌∷◌}
use lib.Dec.{eqb}
use lib.ListN.{length, get_or}
use borrow.Author.Tests.{ltb-true, lt-ltb, eqb-true, eqb-false, eq-eqb, ne_eqb, not-true}
use Rattle.lists.specs.Every.{every}
use Rattle.base64_letters.specs.Letters.{value_of}
use Rattle.base64_letters.proofs.LetterLaws.{value_letter}
use Rattle.base64_encoding.specs.Base64.{three, sextet, encoded_length, encode, value_at, unused, is_letter, all_letters, is_text}
use Rattle.base64_encoding.proofs.Groups.{by_threes, by_fours}
use Rattle.base64_encoding.proofs.Elements.{length-encode, get_or-encode, past_byte, value_inside, past_value, sextet_small, sextet_at}

-- ---- what a text is

pub record Text (t : List ℕ) : Type 0 where
  pub letters : (i : ℕ) → value_at t i < 64
  pub whole : length t % 4 ≡ 1 → ⊥
  pub clear : value_at t (length t - 1) % unused (length t) ≡ 0

value_small : (t : List ℕ) → all_letters t ≡ true → (i : ℕ) → value_at t i < 64
unfolding every value_at value_of
value_small [] h i = omega arith
value_small (b ∷ t) h zero = ltb-true _ _ ((and-eq-true_iff (is_letter b) (all_letters t)).0 h).0
value_small (b ∷ t) h (suc i) = value_small t ((and-eq-true_iff (is_letter b) (all_letters t)).0 h).1 i

text_tests : (t : List ℕ) → is_text t ≡ true
    → (all_letters t ≡ true) × (not (eqb (length t % 4) 1) ≡ true) × (eqb (value_at t (length t - 1) % unused (length t)) 0 ≡ true)
unfolding is_text
text_tests t h =
    let both = (and-eq-true_iff (all_letters t && not (eqb (length t % 4) 1)) (eqb (value_at t (length t - 1) % unused (length t)) 0)).0 h in
    let first = (and-eq-true_iff (all_letters t) (not (eqb (length t % 4) 1))).0 both.0 in
    (first.0, first.1, both.1)

pub text_is : (t : List ℕ) → is_text t ≡ true → Text t
text_is t h =
    let tests = text_tests t h in
    record { letters = value_small t tests.0; whole = eqb-false _ _ (not-true _ tests.1); clear = eqb-true _ _ tests.2 }

-- ---- no `$`, byte 36

pub letters_no_dollar : (t : List ℕ) → all_letters t ≡ true → (i : ℕ) → i < length t → get_or t i 0 ≡ 36 → ⊥
unfolding value_of
letters_no_dollar t h i inside e = omega (arith, value_small t h i, value_inside t i inside, ap value_of e)

pub text_no_dollar : (t : List ℕ) → is_text t ≡ true → (i : ℕ) → i < length t → get_or t i 0 ≡ 36 → ⊥
text_no_dollar t h = letters_no_dollar t (text_tests t h).0

-- ---- what is encoded is a text

-- past the end of the bytes the bits are zero
past_sextet : (l : List ℕ) (i : ℕ) → encoded_length (length l) ≤ i → sextet l i ≡ 0
unfolding encoded_length three
past_sextet l =
    let none = past_byte l in
    by_fours (λ i. encoded_length (length l) ≤ i → sextet l i ≡ 0)
    (λ g h.
    sextet_at l g 0 (omega arith) (omega arith)
    ∙ omega (arith, none (3 * g) (omega arith), none (3 * g + 1) (omega arith), none (3 * g + 2) (omega arith)))
    (λ g h.
    sextet_at l g 1 (omega arith) (omega arith)
    ∙ omega (arith, none (3 * g) (omega arith), none (3 * g + 1) (omega arith), none (3 * g + 2) (omega arith)))
    (λ g h. sextet_at l g 2 (omega arith) (omega arith) ∙ omega (arith, none (3 * g + 1) (omega arith), none (3 * g + 2) (omega arith)))
    (λ g h. sextet_at l g 3 (omega arith) (omega arith) ∙ omega (arith, none (3 * g + 2) (omega arith)))

pub value_encode : (l : List ℕ) (i : ℕ) → value_at (encode l) i ≡ sextet l i
value_encode l i =
    elim (dec_lt i (encoded_length (length l))) [
      | yes inside ↦
          value_inside (encode l) i (omega (arith, length-encode l)) ∙ ap value_of (get_or-encode l i inside) ∙ value_letter (sextet l i) (sextet_small l i)
      | no past ↦ past_value (encode l) i (omega (arith, length-encode l)) ∙ sym (past_sextet l i (omega arith))
    ]

all_letters_lem : (t : List ℕ) → ((i : ℕ) → value_at t i < 64) → all_letters t ≡ true
unfolding every value_at
all_letters_lem [] h = refl
all_letters_lem (b ∷ t) h = ap₂ ◌&&◌ (lt-ltb _ _ (h zero)) (all_letters_lem t (λ i. h (suc i)))

whole_encoded : (n : ℕ) → encoded_length n % 4 ≡ 1 → ⊥
unfolding encoded_length
whole_encoded = by_threes (λ n. encoded_length n % 4 ≡ 1 → ⊥) (λ g. omega arith) (λ g. omega arith) (λ g. omega arith)

-- the last letter of a short group holds zeros where no byte is left
clear_encoded : (l : List ℕ) (n : ℕ) → length l ≡ n → sextet l (encoded_length n - 1) % unused (encoded_length n) ≡ 0
unfolding encoded_length unused three
clear_encoded l =
    let none = past_byte l in
    by_threes (λ n. length l ≡ n → sextet l (encoded_length n - 1) % unused (encoded_length n) ≡ 0)
    (λ g e.
    let kind : encoded_length (3 * g) % 4 ≡ 0 = omega arith in
    rw kind (omega arith))
    (λ g e.
    let kind : encoded_length (3 * g + 1) % 4 ≡ 2 = omega arith in
    rw (kind, sextet_at l g 1 {i = encoded_length (3 * g + 1) - 1} (omega arith) (omega arith))
    (omega (arith, none (3 * g + 1) (omega arith), none (3 * g + 2) (omega arith))))
    (λ g e.
    let kind : encoded_length (3 * g + 2) % 4 ≡ 3 = omega arith in
    rw (kind, sextet_at l g 2 {i = encoded_length (3 * g + 2) - 1} (omega arith) (omega arith)) (omega (arith, none (3 * g + 2) (omega arith))))

pub encode_text : (l : List ℕ) → is_text (encode l) ≡ true
unfolding is_text
encode_text l =
    let letters : all_letters (encode l) ≡ true = all_letters_lem (encode l) (λ i. rw (value_encode l i) (sextet_small l i)) in
    let whole : eqb (length (encode l) % 4) 1 ≡ false = ne_eqb (length (encode l) % 4) 1 (rw (length-encode l) (whole_encoded (length l))) in
    let clear : value_at (encode l) (length (encode l) - 1) % unused (length (encode l)) ≡ 0 =
    rw (value_encode l, length-encode l) (clear_encoded l (length l) refl) in
    rw (letters, whole, eq-eqb _ _ clear)
