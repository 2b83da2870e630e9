-- Laws of numbers as bytes: their range, their elements, that the two directions undo each other, and so that each tells the other.
-- Assumes nothing.
use mathlib.Core.Path.{◌≡◌, refl, sym, ap, ap₂, ◌∙◌, subst}
use Prim.Native.Nat.{ℕ, zero, suc, ◌+◌, ◌*◌, ◌/◌, ◌%◌, ◌^◌, ◌≤◌, ◌<◌}
use native.Mathlib.Nat.{not-suc-le-zero, le_of_suc-le-suc, lt_of_lt_of_le, mul-suc, mul-zero, suc_inj}
use native.Mathlib.Omega.{arith}
use mathlib.Core.List.{List, [], ◌∷◌, ◌++◌}
use lib.ListN.{length, get_or, take, drop, length-append, length-take, length-drop, drop_of_length-le, get_or-append}
use lib.Seq.{get_or-take, get_or-drop, get_or-append-add, drop-cons}
use lib.Pow.{pow-add, pow_mono, shr-shr}
use lib.Arith.{digits_lt, digits_div, digits_mod}
use Rattle.lists.proofs.ZipLaws.{length-tabulate, get_or-tabulate, tabulate-words}
use Rattle.lists.proofs.Parts.{append_inj, pieces_same}
use Rattle.little_endian.specs.Bytes.{le_value, le_bytes, le_each, le_words}

-- every element is a byte
abbrev pub AllBytes : List ℕ → Type 0
AllBytes l = (i : ℕ) → get_or l i 0 < 256

pub value_lt : (l : List ℕ) → AllBytes l → le_value l < 2 ^ (8 * length l)
unfolding le_value
value_lt [] h = omega arith
value_lt (b ∷ bs) h =
    subst (λ (n : ℕ). le_value bs * 256 + b < n)
    (sym (pow-add 2 (8 * length bs) 8) ∙ ap (λ (e : ℕ). 2 ^ e) (omega arith))
    (digits_lt (value_lt bs (λ i. h (suc i))) (h zero))

pub get_or-bytes : (n x k : ℕ) → k < n → get_or (le_bytes n x) k 0 ≡ x / 2 ^ (8 * k) % 256
unfolding le_bytes
get_or-bytes zero x k h = absurd (not-suc-le-zero h)
get_or-bytes (suc n) x zero h = omega arith
get_or-bytes (suc n) x (suc k) h =
    get_or-bytes n (x / 256) k (le_of_suc-le-suc h)
    ∙ ap (λ (y : ℕ). y % 256) (shr-shr x 8 (8 * k) ∙ ap (λ (e : ℕ). x / 2 ^ e) (omega arith))

pub length_bytes : (n x : ℕ) → length (le_bytes n x) ≡ n
unfolding le_bytes
length_bytes zero x = refl
length_bytes (suc n) x = ap suc (length_bytes n (x / 256))

-- a byte does not depend on how many are taken
pub byte_width : (m n x k : ℕ) → k < m → k < n → get_or (le_bytes m x) k 0 ≡ get_or (le_bytes n x) k 0
byte_width m n x k hm hn = get_or-bytes m x k hm ∙ sym (get_or-bytes n x k hn)

pub length_each : (n : ℕ) (xs : List ℕ) → length (le_each n xs) ≡ n * length xs
unfolding le_each
length_each n [] = sym (mul-zero n)
length_each n (x ∷ xs) = omega (arith, length-append (le_bytes n x) (le_each n xs), length_bytes n x, length_each n xs, mul-suc n (length xs))

-- byte r of number q
pub get_or-each : (n : ℕ) (xs : List ℕ) (q r : ℕ) → q < length xs → r < n → get_or (le_each n xs) (n * q + r) 0 ≡ get_or (le_bytes n (get_or xs q 0)) r 0
unfolding le_each
get_or-each n [] q r hq hr = absurd (not-suc-le-zero hq)
get_or-each n (x ∷ xs) zero r hq hr =
    let here : n * zero + r ≡ r = omega (arith, mul-zero n) in
    ap (λ (k : ℕ). get_or (le_bytes n x ++ le_each n xs) k 0) here
    ∙ get_or-append (le_bytes n x) (le_each n xs) 0 r (omega (arith, length_bytes n x))
get_or-each n (x ∷ xs) (suc q) r hq hr =
    let next : n * suc q + r ≡ length (le_bytes n x) + (n * q + r) = omega (arith, mul-suc n q, length_bytes n x) in
    ap (λ (k : ℕ). get_or (le_bytes n x ++ le_each n xs) k 0) next
    ∙ get_or-append-add (le_bytes n x) (le_each n xs) (n * q + r) 0
    ∙ get_or-each n xs q r (le_of_suc-le-suc hq) hr

pub append_bytes : (a b : List ℕ) → AllBytes a → AllBytes b → AllBytes (a ++ b)
append_bytes [] b ha hb i = hb i
append_bytes (x ∷ a) b ha hb zero = ha zero
append_bytes (x ∷ a) b ha hb (suc i) = append_bytes a b (λ j. ha (suc j)) hb i

low_bytes : (n x : ℕ) → AllBytes (le_bytes n x)
unfolding le_bytes
low_bytes zero x i = omega arith
low_bytes (suc n) x zero = omega arith
low_bytes (suc n) x (suc i) = low_bytes n (x / 256) i

pub each_bytes : (n : ℕ) (xs : List ℕ) → AllBytes (le_each n xs)
unfolding le_each
each_bytes n [] i = omega arith
each_bytes n (x ∷ xs) i = append_bytes (le_bytes n x) (le_each n xs) (low_bytes n x) (each_bytes n xs) i

pub bytes_value : (l : List ℕ) → AllBytes l → le_bytes (length l) (le_value l) ≡ l
unfolding le_bytes le_value
bytes_value [] h = refl
bytes_value (b ∷ bs) h =
    ap₂ (λ (x : ℕ) (t : List ℕ). x ∷ t) (digits_mod (le_value bs) (h zero))
    (ap (le_bytes (length bs)) (digits_div (le_value bs) (h zero)) ∙ bytes_value bs (λ i. h (suc i)))

pub take_bytes : (n : ℕ) (l : List ℕ) → AllBytes l → AllBytes (take n l)
take_bytes zero l h i = omega arith
take_bytes (suc n) [] h i = h i
take_bytes (suc n) (b ∷ bs) h zero = h zero
take_bytes (suc n) (b ∷ bs) h (suc i) = take_bytes n bs (λ j. h (suc j)) i

pub drop_bytes : (n : ℕ) (l : List ℕ) → AllBytes l → AllBytes (drop n l)
drop_bytes n l h i = subst (λ (x : ℕ). x < 256) (sym (get_or-drop n l i 0)) (h (n + i))

-- at most n bytes
pub value_most : (n : ℕ) (l : List ℕ) → AllBytes l → le_value (take n l) < 2 ^ (8 * n)
value_most n l h =
    lt_of_lt_of_le (value_lt (take n l) (take_bytes n l h)) (pow_mono {j = 8 * n} (simp length-take (omega arith)))

-- ---- a number of n bytes at a place, read from its highest byte down

-- bytes i to n - 1 are read, and stand for v
pub record Loaded (n : ℕ) (bytes : List ℕ) (at i v : ℕ) : Type 0 where
  pub all : AllBytes bytes
  pub short : n ≤ 8
  pub fits : at + n ≤ length bytes
  pub within : i ≤ n
  pub so_far : v ≡ le_value (drop i (take n (drop at bytes)))

module _ {n : ℕ} {bytes : List ℕ} {at : ℕ} where
  pub loaded_none : AllBytes bytes → n ≤ 8 → at + n ≤ length bytes → Loaded n bytes at n 0
  unfolding le_value
  loaded_none all short fits =
      let none = drop_of_length-le (take n (drop at bytes)) {i = n} (simp length-take (omega arith)) in
      record { all = all; short = short; fits = fits; within = omega arith; so_far = sym (ap le_value none) }

  -- seven bytes at most leave room for one more
  pub loaded_room : {i v : ℕ} → Loaded n bytes at i v → 0 < i → v < 2 ^ 56
  loaded_room {i} q pos =
      rw q.so_far
      (lt_of_lt_of_le
      (value_lt _ (drop_bytes i (take n (drop at bytes)) (take_bytes n (drop at bytes) (drop_bytes at bytes q.all))))
      (pow_mono {j = 56} (simp (length-drop, length-take) (omega (arith, q.short)))))

  pub loaded_more : {i v k b : ℕ} → Loaded n bytes at i v → suc k ≡ i → b ≡ get_or bytes (at + k) 0 → Loaded n bytes at k (v * 256 + b)
  unfolding le_value
  loaded_more {k = k} q e here =
      let inside : k < length (take n (drop at bytes)) = simp (length-take, length-drop) (omega (arith, q.fits, q.within)) in
      record {
        all = q.all;
        short = q.short;
        fits = q.fits;
        within = omega (arith, q.within);
        so_far =
            rw (drop-cons (take n (drop at bytes)) k 0 inside)
            (ap₂ (λ (x y : ℕ). x * 256 + y) (q.so_far ∙ ap (λ (m : ℕ). le_value (drop m (take n (drop at bytes)))) (sym e))
            (here ∙ sym (get_or-take n (drop at bytes) k 0 (omega (arith, q.within)) ∙ get_or-drop at bytes k 0)));
      }

  pub loaded_end : {i v : ℕ} → Loaded n bytes at i v → i ≡ 0 → v ≡ le_value (take n (drop at bytes))
  loaded_end q e = rw e at q.so_far

pub length-words : (n : ℕ) (bytes : List ℕ) → length (le_words n bytes) ≡ n
unfolding le_words
length-words n bytes = length-tabulate n _

pub get_or-words : (n : ℕ) (bytes : List ℕ) (i : ℕ) → i < n → get_or (le_words n bytes) i 0 ≡ le_value (take 8 (drop (8 * i) bytes))
unfolding le_words
get_or-words n bytes i h = get_or-tabulate n _ i h

-- words below 2^64
pub words_fit : (n : ℕ) (bytes : List ℕ) → AllBytes bytes → (i : ℕ) → get_or (le_words n bytes) i 0 < 2 ^ 64
unfolding le_words
words_fit n bytes h =
    tabulate-words n _
    (λ i. lt_of_lt_of_le (value_lt _ (take_bytes 8 (drop (8 * i) bytes) (drop_bytes (8 * i) bytes h))) (pow_mono {j = 64} (simp length-take (omega arith))))

-- ---- numbers are known by their bytes, and bytes by the words that they make

pub value_bytes : (n x : ℕ) → x < 2 ^ (8 * n) → le_value (le_bytes n x) ≡ x
unfolding le_value le_bytes
value_bytes zero x h = omega arith
value_bytes (suc n) x h =
    let more : 2 ^ (8 * suc n) ≡ 2 ^ (8 * n) * 256 = ap (λ (e : ℕ). 2 ^ e) (omega arith) ∙ pow-add 2 (8 * n) 8 in
    let rest : le_value (le_bytes n (x / 256)) ≡ x / 256 = value_bytes n (x / 256) (omega arith) in
    omega arith

pub bytes_inj : (n x y : ℕ) → x < 2 ^ (8 * n) → y < 2 ^ (8 * n) → le_bytes n x ≡ le_bytes n y → x ≡ y
bytes_inj n x y hx hy e = sym (value_bytes n x hx) ∙ ap le_value e ∙ value_bytes n y hy

pub value_inj : (l m : List ℕ) → AllBytes l → AllBytes m → length l ≡ length m → le_value l ≡ le_value m → l ≡ m
value_inj l m hl hm len e = sym (bytes_value l hl) ∙ ap₂ le_bytes len e ∙ bytes_value m hm

-- the bytes of n words
pub words_inj : (n : ℕ) (l m : List ℕ) → AllBytes l → AllBytes m → 8 * n ≤ length l → 8 * n ≤ length m
    → le_words n l ≡ le_words n m → take (8 * n) l ≡ take (8 * n) m
words_inj n l m hl hm fl fm e =
    pieces_same 8 n l m
    (λ i lt.
    value_inj _ _ (take_bytes 8 (drop (8 * i) l) (drop_bytes (8 * i) l hl)) (take_bytes 8 (drop (8 * i) m) (drop_bytes (8 * i) m hm))
    (simp (length-take, length-drop) (omega arith))
    (sym (get_or-words n l i lt) ∙ ap (λ (words : List ℕ). get_or words i 0) e ∙ get_or-words n m i lt))

-- the bytes of each number of a list
pub each_inj : (n : ℕ) (xs ys : List ℕ) → length xs ≡ length ys → le_each n xs ≡ le_each n ys
    → (i : ℕ) → le_bytes n (get_or xs i 0) ≡ le_bytes n (get_or ys i 0)
unfolding le_each
each_inj n [] [] len e i = refl
each_inj n [] (y ∷ ys) len e i = absurd (omega arith)
each_inj n (x ∷ xs) [] len e i = absurd (omega arith)
each_inj n (x ∷ xs) (y ∷ ys) len e zero =
    (append_inj (le_bytes n x) (le_bytes n y) (le_each n xs) (le_each n ys) (length_bytes n x ∙ sym (length_bytes n y)) e).0
each_inj n (x ∷ xs) (y ∷ ys) len e (suc j) =
    each_inj n xs ys (suc_inj len)
    (append_inj (le_bytes n x) (le_bytes n y) (le_each n xs) (le_each n ys) (length_bytes n x ∙ sym (length_bytes n y)) e).1 j
