-- The padding and the padded input: lengths, bytes, what stands at each place, and that the padded input tells the input.
-- Assumes nothing.
use mathlib.Core.Path.{◌≡◌, refl, sym, ap, ap₂, ◌∙◌}
use mathlib.Core.Bool.{Bool, true, false, cond}
use Prim.Native.Nat.{ℕ, zero, suc, ◌+◌, ◌-◌, ◌*◌, ◌≤◌, ◌<◌, ◌^◌}
use native.Mathlib.Decide.{dec_lt}
use native.Mathlib.Omega.{arith}
use mathlib.Core.List.{List, [], ◌∷◌, ◌++◌, append_assoc}
use lib.Dec.{eqb}
use lib.ListN.{length, get_or, replicate, length-append, get_or-append, get_or-eq_default}
use lib.Seq.{get_or-append-add}
use borrow.Author.Tests.{eq-eqb, ne_eqb}
use Rattle.lists.specs.Zip.{tabulate}
use Rattle.lists.proofs.ZipLaws.{length-tabulate, get_or-tabulate}
use Rattle.lists.proofs.Parts.{append_inj}
use Rattle.little_endian.specs.Bytes.{le_bytes, le_each}
use Rattle.little_endian.proofs.ByteLaws.{AllBytes, append_bytes, each_bytes, byte_width, length_each, get_or-each, bytes_inj, each_inj}
use Rattle.padded_input.specs.Padded.{unpadded, padding, missing, padded, blocks}

-- ---- the padding

length-padding : (n : ℕ) → length (padding n) ≡ n
unfolding padding
length-padding n = length-tabulate n _

abbrev first : ℕ → ℕ
first i = cond (eqb i 0) 0x80 0

abbrev last : ℕ → ℕ → ℕ
last n i = cond (eqb (suc i) n) 0x01 0

padding_byte_lem : (n i : ℕ) → 0 < n → first i + last n i ≡ get_or (padding n) i 0
unfolding padding
padding_byte_lem n i h =
    elim (dec_lt i n) [
      | yes within ↦ sym (get_or-tabulate n _ i within)
      | no past ↦
          rw (ne_eqb i 0 (λ e. omega arith), ne_eqb (suc i) n (λ e. omega arith))
          (sym (get_or-eq_default (padding n) 0 (omega (arith, length-padding n))))
    ]

-- byte i, from whether it is the first and whether it is the last
abbrev bit : {A : Type 0} → Dec A → ℕ → ℕ
bit (yes h) k = k
bit (no h) k = 0

bit_test : (a b k : ℕ) (d : Dec (a ≡ b)) → bit d k ≡ cond (eqb a b) k 0
bit_test a b k (yes e) = rw (eq-eqb a b e)
bit_test a b k (no n) = rw (ne_eqb a b n)

pub padding_is : (n i x : ℕ) → 0 < n → (f : Dec (i ≡ 0)) (l : Dec (suc i ≡ n)) → x ≡ bit f 0x80 + bit l 0x01 → x ≡ get_or (padding n) i 0
padding_is n i x h f l e = e ∙ ap₂ (λ (a b : ℕ). a + b) (bit_test i 0 0x80 f) (bit_test (suc i) n 0x01 l) ∙ padding_byte_lem n i h

-- thirty-two bytes written out
pub padding_32 : padding 32 ≡ 0x80 ∷ (replicate 30 0 ++ (0x01 ∷ []))
unfolding padding tabulate
padding_32 = refl

cond-le : (b : Bool) (k : ℕ) → cond b k 0 ≤ k
cond-le true k = omega arith
cond-le false k = omega arith

padding_bytes : (n : ℕ) → AllBytes (padding n)
unfolding padding tabulate
padding_bytes zero i = omega arith
padding_bytes (suc n) i = omega (arith, padding_byte_lem (suc n) i (omega arith), cond-le (eqb i 0) 0x80, cond-le (eqb (suc i) (suc n)) 0x01)

-- the byte that marks the padding's beginning, and those after it
pub padding-mark : (n : ℕ) → 0 < n → 128 ≤ get_or (padding n) 0 0
padding-mark n h = omega (arith, padding_byte_lem n 0 h)

pub padding-low : (n i : ℕ) → 0 < n → 0 < i → get_or (padding n) i 0 ≤ 1
padding-low n i h p =
    let rest = rw (ne_eqb i 0 (λ e. omega arith)) at (padding_byte_lem n i h) in omega (arith, rest, cond-le (eqb (suc i) n) 0x01)

-- ---- the padded input

module _ (password salt ns : List ℕ) where
  abbrev pub input_length : ℕ
  input_length = length password + length salt + 4 * length ns

  pub length-unpadded : length (unpadded password salt ns) ≡ input_length
  unfolding unpadded
  length-unpadded = simp (length-append, length_each) (omega arith)

  pub length-padded : length (padded password salt ns) ≡ 64 * blocks (length password) (length salt) (length ns)
  unfolding padded blocks
  length-padded = simp (length-append, length-padding, length-unpadded) (omega arith)

  pub padded_bytes : AllBytes password → AllBytes salt → AllBytes (padded password salt ns)
  unfolding padded unpadded
  padded_bytes hp hs =
      append_bytes (unpadded password salt ns) _
      (append_bytes password (salt ++ le_each 4 ns) hp (append_bytes salt (le_each 4 ns) hs (each_bytes 4 ns)))
      (padding_bytes (missing (length (unpadded password salt ns))))

  pub padded_parts : padded password salt ns ≡ password ++ (salt ++ (le_each 4 ns ++ padding (missing input_length)))
  unfolding padded unpadded
  padded_parts = rw length-unpadded (simp append_assoc)

-- what stands in a list that is appended to
within : (a b : List ℕ) (i : ℕ) → i < length a → get_or a i 0 ≡ get_or (a ++ b) i 0
within a b i h = sym (get_or-append a b 0 i h)

after : (a b : List ℕ) (i j x : ℕ) → i ≡ length a + j → x ≡ get_or b j 0 → x ≡ get_or (a ++ b) i 0
after a b i j x e h = rw e (h ∙ sym (get_or-append-add a b j 0))

-- byte i, as byte j of one of its four parts
module _ (password salt ns : List ℕ) (i : ℕ) where
  pub password_at : i < length password → get_or password i 0 ≡ get_or (padded password salt ns) i 0
  password_at h = rw padded_parts (within password _ i h)

  pub salt_at : (j : ℕ) → i ≡ length password + j → j < length salt → get_or salt j 0 ≡ get_or (padded password salt ns) i 0
  salt_at j e h = rw padded_parts (after password _ i j _ e (within salt _ j h))

  -- byte r of number q
  pub number_at_lem : (q r : ℕ) → i ≡ length password + length salt + (4 * q + r) → q < length ns → r < 4
      → get_or (le_bytes 8 (get_or ns q 0)) r 0 ≡ get_or (padded password salt ns) i 0
  number_at_lem q r e hq hr =
      rw padded_parts
      (byte_width 8 4 _ r (omega arith) hr ∙ sym (get_or-each 4 ns q r hq hr)
      ∙ after password _ i (length salt + (4 * q + r)) _ (omega arith)
      (after salt _ _ (4 * q + r) _ refl (within (le_each 4 ns) _ _ (omega (arith, length_each 4 ns)))))

  pub padding_at : (j n : ℕ) → i ≡ input_length password salt ns + j → n ≡ missing (input_length password salt ns)
      → get_or (padding n) j 0 ≡ get_or (padded password salt ns) i 0
  padding_at j n e m =
      rw (padded_parts, ← m)
      (after password _ i (length salt + (4 * length ns + j)) _ (omega arith)
      (after salt _ (length salt + (4 * length ns + j)) (4 * length ns + j) _ refl
      (after (le_each 4 ns) _ (4 * length ns + j) j _ (omega (arith, length_each 4 ns)) refl)))

-- ---- the input is known by its padded input

-- Where one input is shorter, its padding would meet the other's mark: a byte of 128 or more against one of at most 1.
not_shorter : (p s ns p' s' ns' : List ℕ) → padded p s ns ≡ padded p' s' ns' → ¬ (input_length p s ns < input_length p' s' ns')
not_shorter p s ns p' s' ns' e lt =
    let i = input_length p' s' ns' in
    let j = i - input_length p s ns in
    let n = missing (input_length p s ns) in
    omega (
      arith,
      ap (λ (l : List ℕ). get_or l i 0) e,
      padding_at p s ns i j n (omega arith) refl,
      padding-low n j (omega arith) (omega arith),
      padding_at p' s' ns' i 0 (missing i) (omega arith) refl,
      padding-mark (missing i) (omega arith),
    )

module _ (p s ns p' s' ns' : List ℕ) (count : length ns ≡ length ns') (e : padded p s ns ≡ padded p' s' ns') where
  same_parts : (p ++ s ≡ p' ++ s') × (le_each 4 ns ≡ le_each 4 ns')
  same_parts =
      let a = not_shorter p s ns p' s' ns' e in
      let b = not_shorter p' s' ns' p s ns (sym e) in
      let halves =
      append_inj (p ++ s) (p' ++ s') (le_each 4 ns ++ padding (missing (input_length p s ns))) (le_each 4 ns' ++ padding (missing (input_length p' s' ns')))
      (omega (arith, length-append p s, length-append p' s'))
      (append_assoc p s _ ∙ sym (padded_parts p s ns) ∙ e ∙ padded_parts p' s' ns' ∙ sym (append_assoc p' s' _)) in
      (halves.0, (append_inj (le_each 4 ns) (le_each 4 ns') _ _ (omega (arith, length_each 4 ns, length_each 4 ns')) halves.1).0)

-- the numbers begin with the key length, the password length and the salt length; equally many follow
module _ (k k' : ℕ) (p s p' s' rest rest' : List ℕ) (count : length rest ≡ length rest') where
  pub padded_inj : k < 2 ^ 32 → k' < 2 ^ 32 → length p < 2 ^ 32 → length p' < 2 ^ 32
      → padded p s (k ∷ length p ∷ length s ∷ rest) ≡ padded p' s' (k' ∷ length p' ∷ length s' ∷ rest')
      → (p ≡ p') × (s ≡ s') × (k ≡ k')
  padded_inj hk hk' hp hp' e =
      let parts = same_parts p s _ p' s' _ (omega arith) e in
      let number = each_inj 4 _ _ (omega arith) parts.1 in
      let lists = append_inj p p' s s' (bytes_inj 4 (length p) (length p') hp hp' (number 1)) parts.0 in
      (lists.0, lists.1, bytes_inj 4 k k' hk hk' (number 0))
