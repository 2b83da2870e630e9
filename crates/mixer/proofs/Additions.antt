-- BlaMka's addition is undone by its inverse, and so is that of every mixer. Assumes nothing.
use Rattle.std.proofs.Common.{◌≡◌, ℕ, ◌+◌, ◌-◌, ◌*◌, ◌/◌, ◌%◌, ◌^◌, ◌<◌, ◌≤◌, sym, refl, ap, ◌∙◌, mod-lt, mul-le-mul, arith}
use native.Mathlib.Nat.{div-add-mod, add-mul-mod_self_left, mul-mod_right, mod-mod, mod-add-mod, add-mod-mod}
use Rattle.mixer.specs.Word.{Undoes, difference}
use Rattle.mixer.specs.Mixers.{low, doubled_product, blamka_sum, square_step, negated_inverse, low_back, blamka_back, blamka, addition_of, sum_of}
use Rattle.mixer.specs.declared.Mixer.{Mixer}
use Rattle.mixer.specs.declared.Mixer.TheVariants.{Plain, BlaMka}
use Rattle.mixer.proofs.WordLaws.{plain_undoes}

-- the product of two halves is a word
pub halves_product : {x y : ℕ} → x < 2 ^ 32 → y < 2 ^ 32 → x * y < 2 ^ 64
halves_product {x} {y} hx hy =
    let most : x * y ≤ (2 ^ 32 - 1) * (2 ^ 32 - 1) = mul-le-mul {n₂ = 2 ^ 32 - 1} {m₂ = 2 ^ 32 - 1} (omega arith) (omega arith) in
    omega (arith, most)

-- its double, added last
pub sum_of_three : (a b p : ℕ) → (a + (b + p % 2 ^ 64) % 2 ^ 64) % 2 ^ 64 ≡ (a + b + p) % 2 ^ 64
sum_of_three a b p =
    let moved : a + (b + p % 2 ^ 64) ≡ a + b + p % 2 ^ 64 = omega arith in
    add-mod-mod a (b + p % 2 ^ 64) (2 ^ 64) ∙ ap (λ (n : ℕ). n % 2 ^ 64) moved ∙ add-mod-mod (a + b) p (2 ^ 64)

-- ---- the inverse of an odd factor

-- what remains of a product modulo 2^32 differs from it by a multiple
module _ (m r u x : ℕ) (whole : m * m * r ≡ 2 ^ 32) where
  -- where m divides u·x + 1, the square of m divides it after a step
  square_step_lem : (u * x + 1) % m ≡ 0 → (u * square_step u x + 1) % (m * m) ≡ 0
  square_step_lem h =
      let q = (u * x + 1) / m in
      let v = low (u * x + 2) in
      let d = (u * x + 2) / 2 ^ 32 in
      let y = low (x * v) in
      let e = (x * v) / 2 ^ 32 in
      let given : m * q + 0 ≡ u * x + 1 = ap (λ (n : ℕ). m * q + n) (sym h) ∙ div-add-mod (u * x + 1) m in
      let inner : 2 ^ 32 * d + v ≡ u * x + 2 = div-add-mod (u * x + 2) (2 ^ 32) in
      let outer : 2 ^ 32 * e + y ≡ x * v = div-add-mod (x * v) (2 ^ 32) in
      let squared : (m * q) * (m * q) ≡ (u * x + 1) * (u * x + 1) = ap (λ (n : ℕ). n * n) (omega (arith, given)) in
      let inner' : u * x * (2 ^ 32 * d + v) ≡ u * x * (u * x + 2) = ap (λ (n : ℕ). u * x * n) inner in
      let outer' : u * (2 ^ 32 * e + y) ≡ u * (x * v) = ap (λ (n : ℕ). u * n) outer in
      let whole' : m * m * r * (u * e + u * x * d) ≡ 2 ^ 32 * (u * e + u * x * d) = ap (λ (n : ℕ). n * (u * e + u * x * d)) whole in
      let split : u * y + 1 + m * m * (r * (u * e + u * x * d)) ≡ m * m * (q * q) = omega (arith, squared, inner', outer', whole') in
      sym (add-mul-mod_self_left (u * y + 1) (m * m) (r * (u * e + u * x * d))) ∙ ap (λ (n : ℕ). n % (m * m)) split ∙ mul-mod_right (m * m) (q * q)

-- five steps from a multiple of 2
negated_inverse_lem : (u : ℕ) → u % 2 ≡ 1 → (u * negated_inverse u + 1) % 2 ^ 32 ≡ 0
unfolding negated_inverse
negated_inverse_lem u odd =
    square_step_lem 65536 1 u _ refl (square_step_lem 256 65536 u _ refl (square_step_lem 16 16777216 u _ refl (square_step_lem 4 268435456 u _ refl
    (square_step_lem 2 1073741824 u 1 refl (omega arith)))))

-- ---- the low half of the sum gives that of the first operand
low_word : (n : ℕ) → low (n % 2 ^ 64) ≡ low n
low_word n = omega arith

low_sum : (a b : ℕ) → low (blamka_sum a b) ≡ low (low a * low (1 + 2 * low b) + low b)
unfolding blamka_sum
low_sum a b =
    let u = low (1 + 2 * low b) in
    let c = (1 + 2 * low b) / 2 ^ 32 in
    let h = a / 2 ^ 32 + b / 2 ^ 32 + low a * c in
    let odd : low a * (2 ^ 32 * c + u) ≡ low a * (1 + 2 * low b) = ap (λ (n : ℕ). low a * n) (div-add-mod (1 + 2 * low b) (2 ^ 32)) in
    let parts : a + b + doubled_product a b ≡ low a * u + low b + 2 ^ 32 * h = omega (arith, odd) in
    low_word (a + b + doubled_product a b) ∙ ap low parts ∙ add-mul-mod_self_left (low a * u + low b) (2 ^ 32) h

pub low_back_lem : (a b : ℕ) → low_back (blamka_sum a b) b ≡ low a
unfolding low_back
low_back_lem a b =
    let u = low (1 + 2 * low b) in
    let x = negated_inverse u in
    let y = low (blamka_sum a b) in
    let z = low (low b + (2 ^ 32 - y)) in
    let c = (low b + (2 ^ 32 - y)) / 2 ^ 32 in
    let k = (low a * u + low b) / 2 ^ 32 in
    let q = (u * x + 1) / 2 ^ 32 in
    let small : y < 2 ^ 32 = omega arith in
    let sum : 2 ^ 32 * k + y ≡ low a * u + low b = ap (λ (n : ℕ). 2 ^ 32 * k + n) (low_sum a b) ∙ div-add-mod (low a * u + low b) (2 ^ 32) in
    let rest : 2 ^ 32 * c + z ≡ low b + (2 ^ 32 - y) = div-add-mod (low b + (2 ^ 32 - y)) (2 ^ 32) in
    let all : 2 ^ 32 * c + z + low a * u ≡ 2 ^ 32 * k + 2 ^ 32 = omega (arith, sum, rest, small) in
    let all' : x * (2 ^ 32 * c + z + low a * u) ≡ x * (2 ^ 32 * k + 2 ^ 32) = ap (λ (n : ℕ). x * n) all in
    let inverse : 2 ^ 32 * q ≡ u * x + 1 = omega (arith, negated_inverse_lem u (omega arith), div-add-mod (u * x + 1) (2 ^ 32)) in
    let inverse' : low a * (2 ^ 32 * q) ≡ low a * (u * x + 1) = ap (λ (n : ℕ). low a * n) inverse in
    omega (arith, all', inverse')

-- a sum of three is undone by two differences
sum_undone : (a b p : ℕ) → a < 2 ^ 64 → b < 2 ^ 64 → difference (difference ((a + b + p) % 2 ^ 64) b) (p % 2 ^ 64) ≡ a
sum_undone a b p ha hb =
    let back = plain_undoes.sum_back in
    let moved : a + b + p ≡ a + p + b = omega arith in
    ap (λ (n : ℕ). difference (difference n b) (p % 2 ^ 64)) (ap (λ (n : ℕ). n % 2 ^ 64) moved ∙ sym (mod-add-mod (a + p) (2 ^ 64) b))
    ∙ ap (λ (n : ℕ). difference n (p % 2 ^ 64)) (back ((a + p) % 2 ^ 64) b (omega arith) hb ∙ sym (add-mod-mod a p (2 ^ 64)))
    ∙ back a (p % 2 ^ 64) ha (omega arith)

pub blamka_undoes : Undoes blamka
unfolding blamka_sum blamka_back
blamka_undoes =
    record {
      sum_word = λ a b ha hb. mod-lt _ (omega arith);
      back_word = λ a b ha hb. mod-lt _ (omega arith);
      sum_back = λ a b ha hb.
          ap (λ (n : ℕ). difference (difference (blamka_sum a b) b) (2 * (n * low b) % 2 ^ 64)) (ap low (low_back_lem a b) ∙ mod-mod a (2 ^ 32))
          ∙ sum_undone a b (doubled_product a b) ha hb;
    }

-- ---- either mixer

pub sum_of_zeros : (x : Mixer) → sum_of x 0 0 ≡ 0
unfolding blamka_sum
sum_of_zeros Plain = refl
sum_of_zeros BlaMka = refl

pub undoes : (x : Mixer) → Undoes (addition_of x)
undoes Plain = plain_undoes
undoes BlaMka = blamka_undoes
