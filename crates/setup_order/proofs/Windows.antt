-- Where the order of Setup stands: each window is a power of two and its step is odd, so that row1 comes back to 0 only when as many
-- rows as the window holds are filled. Assumes nothing.
use mathlib.Core.Path.{◌≡◌, refl, sym, ap, ◌∙◌}
use Prim.Native.Nat.{ℕ, zero, suc, ◌+◌, ◌-◌, ◌*◌, ◌/◌, ◌%◌, ◌^◌, ◌≤◌, ◌<◌}
use native.Mathlib.Nat.{add-suc, pow-suc, suc-mul, zero-mod, zero-mul, mod-lt, mod-eq_of_lt, mod-add-mod, mul-mod_right, eq-or-lt_of_le}
use native.Mathlib.Nat.{mod-one, mul_assoc, mul-add, mul-one}
use native.Mathlib.Numerals.{add-one}
use native.Mathlib.Decide.{dec_lt}
use native.Mathlib.Omega.{arith}
use mathlib.Core.Bool.{Bool, true, false, cond, not}
use lib.Pow.{pow_pos, pow_mono}
use lib.Arith.{lt_of_le-ne, mod-mul}
use lib.Dec.{eqb}
use mathlib.Core.Logic.{⊎_elim}
use borrow.Author.Tests.{eqb-true, eqb-false}
use Rattle.setup_order.specs.declared.Order.{Order}
use Rattle.setup_order.specs.SetupOrder.{Fits, first_order, moved, new_window, next_order, order, row1_of}

-- ---- steps of an odd length around a circle whose length is a power of two come back to their start only after a whole round

-- an odd factor leaves a number even or odd as it was
odd_factor : (x s : ℕ) → s % 2 ≡ 1 → (x * s) % 2 ≡ x % 2
odd_factor x s odd =
    let split : x * s ≡ x * (s / 2) * 2 + x =
    ap (λ (n : ℕ). x * n) (omega arith) ∙ mul-add x (s / 2 * 2) 1 ∙ simp (mul-one, mul_assoc) in
    omega arith

-- half of an even number's multiple
half_of : (x s : ℕ) → x % 2 ≡ 0 → x * s / 2 ≡ x / 2 * s
half_of x s even =
    let split : x * s ≡ 2 * (x / 2 * s) = ap (λ (n : ℕ). n * s) (omega arith) ∙ mul_assoc 2 (x / 2) s in
    omega arith

-- with s odd, a power of two that divides x * s divides x
odd_cancel : (e x s : ℕ) → s % 2 ≡ 1 → (x * s) % 2 ^ e ≡ 0 → x % 2 ^ e ≡ 0
odd_cancel zero x s odd h = mod-one x
odd_cancel (suc e) x s odd h =
    let halves : (n : ℕ) → n % 2 ^ suc e ≡ (n / 2 % 2 ^ e) * 2 + n % 2 =
    λ n. ap (λ (m : ℕ). n % m) (pow-suc 2 e) ∙ mod-mul n (pow_pos e) (omega arith) in
    let even : x % 2 ≡ 0 = omega (arith, halves (x * s), odd_factor x s odd) in
    let half : (x / 2 * s) % 2 ^ e ≡ 0 = rw (← half_of x s even) (omega (arith, halves (x * s))) in
    omega (arith, halves x, odd_cancel e (x / 2) s odd half)

-- ---- windows

-- with r = 2 ^ a: where gap is +1, wnd is 2·r² and stp is 2·r − 1; where it is −1, wnd is r² and stp is r + 1
abbrev pub Shape : Bool → ℕ → ℕ → ℕ → Type 0
Shape true a wnd stp = (wnd ≡ 2 ^ suc (a + a)) × (suc stp ≡ 2 ^ suc a)
Shape false a wnd stp = (wnd ≡ 2 ^ (a + a)) × (stp ≡ suc (2 ^ a)) × (0 < a)

-- sqrt is 2·r in both shapes
pub record Window (rising : Bool) (wnd stp sqrt : ℕ) : Type 0 where
  pub a : ℕ
  pub sqrt_is : sqrt ≡ 2 ^ suc a
  pub shape : Shape rising a wnd stp

-- the order of the row row0: j rows were filled since the window began
pub record AtRow (row0 : ℕ) (o : Order) : Type 0 where
  pub window : Window o.rising o.wnd o.stp o.sqrt
  pub j : ℕ
  pub row0_is : row0 ≡ o.wnd + j
  pub j_lt : j < o.wnd
  pub row1_is : o.row1 ≡ (j * o.stp) % o.wnd
  pub prev1_lt : o.prev1 < o.wnd

-- what both shapes have
pub record Numbers (e wnd stp sqrt : ℕ) : Type 0 where
  pub wnd_is : wnd ≡ 2 ^ e
  pub stp_odd : stp % 2 ≡ 1
  pub stp_lt : stp < wnd
  pub sqrt_pos : 0 < sqrt
  pub sqrt_le : sqrt ≤ wnd

abbrev exponent : Bool → ℕ → ℕ
exponent true a = suc (a + a)
exponent false a = a + a

pub numbers : (b : Bool) {wnd stp sqrt : ℕ} (w : Window b wnd stp sqrt) → Numbers (exponent b w.a) wnd stp sqrt
numbers true w =
    let le : 2 ^ suc w.a ≤ 2 ^ suc (w.a + w.a) = pow_mono (omega arith) in
    omega (arith, pow-suc 2 w.a, pow_pos w.a, w.shape.0, w.shape.1)
numbers false w =
    let even : 2 ^ w.a ≡ 2 ^ (w.a - 1) * 2 = ap (λ (n : ℕ). 2 ^ n) (omega (arith, w.shape.2)) ∙ pow-suc 2 (w.a - 1) in
    let le : 2 ^ suc w.a ≤ 2 ^ (w.a + w.a) = pow_mono (omega (arith, w.shape.2)) in
    omega (arith, pow-suc 2 w.a, pow_pos (w.a - 1), w.shape.0, w.shape.1)

next_window : (b : Bool) (wnd stp sqrt : ℕ) → Window b wnd stp sqrt
    → Window (not b) (2 * wnd) (cond b (sqrt + 1) (sqrt - 1)) (cond (not b) sqrt (2 * sqrt))
next_window true wnd stp sqrt w =
    let squared : 2 ^ (suc w.a + suc w.a) ≡ 2 ^ suc (w.a + w.a) * 2 =
    ap (λ (n : ℕ). 2 ^ n) (omega arith) ∙ pow-suc 2 (suc (w.a + w.a)) in
    record { a = suc w.a; sqrt_is = omega (arith, pow-suc 2 (suc w.a)); shape = omega (arith, w.shape.0) }
next_window false wnd stp sqrt w =
    record { a = w.a; sqrt_is = w.sqrt_is; shape = omega (arith, pow-suc 2 (w.a + w.a), pow_pos (suc w.a), w.shape.0) }

pub row1_lt_wnd : {row0 : ℕ} {o : Order} → AtRow row0 o → o.row1 < o.wnd
row1_lt_wnd {o = o} h = rw h.row1_is (mod-lt (h.j * o.stp) (omega (arith, h.j_lt)))

-- one row more
module _ {row0 : ℕ} {o : Order} (h : AtRow row0 o) where
  row1_moves : (moved o).row1 ≡ (suc h.j * o.stp) % o.wnd
  unfolding moved
  row1_moves =
      ap (λ (n : ℕ). (n + o.stp) % o.wnd) h.row1_is ∙ mod-add-mod (h.j * o.stp) o.wnd o.stp
      ∙ ap (λ (n : ℕ). n % o.wnd) (sym (suc-mul h.j o.stp))

  -- row1 is back at 0 where the window is full, and only there
  full : (moved o).row1 ≡ 0 → suc h.j ≡ o.wnd
  full z =
      let n = numbers o.rising h.window in
      let none : suc h.j % o.wnd ≡ 0 =
      rw n.wnd_is (odd_cancel _ (suc h.j) o.stp n.stp_odd (rw n.wnd_is at (sym row1_moves ∙ z))) in
      ⊎_elim (λ eq. eq) (λ lt. absurd (omega (arith, none, mod-eq_of_lt lt))) (eq-or-lt_of_le h.j_lt)

  not_full : ((moved o).row1 ≡ 0 → ⊥) → suc h.j < o.wnd
  not_full nz =
      lt_of_le-ne h.j_lt (λ eq. nz (row1_moves ∙ ap (λ (n : ℕ). (n * o.stp) % o.wnd) eq ∙ mul-mod_right o.wnd o.stp))

  after : (t : Bool) → eqb (moved o).row1 0 ≡ t → AtRow (suc row0) (cond t (new_window (moved o)) (moved o))
  unfolding moved new_window
  after true e =
      let z : (moved o).row1 ≡ 0 = eqb-true _ _ e in
      record {
        window = next_window o.rising o.wnd o.stp o.sqrt h.window;
        j = 0;
        row0_is = omega (arith, full z, h.row0_is);
        j_lt = omega (arith, h.j_lt);
        row1_is = z ∙ sym (ap (λ (n : ℕ). n % (2 * o.wnd)) (zero-mul _) ∙ zero-mod (2 * o.wnd));
        prev1_lt = omega (arith, row1_lt_wnd h);
      }
  after false e =
      record {
        window = h.window;
        j = suc h.j;
        row0_is = omega (arith, h.row0_is);
        j_lt = not_full (eqb-false _ _ e);
        row1_is = row1_moves;
        prev1_lt = row1_lt_wnd h;
      }

  pub next_at : AtRow (suc row0) (next_order o)
  unfolding next_order
  next_at = after (eqb (moved o).row1 0) refl

first_at : AtRow 3 first_order
unfolding first_order
first_at =
    record { window = record { a = 0; sqrt_is = refl; shape = (refl, refl) }; j = 1; row0_is = refl; j_lt = omega arith; row1_is = refl; prev1_lt = omega arith }

pub order_at : (k : ℕ) → AtRow (3 + k) (order k)
unfolding order
order_at zero = first_at
order_at (suc k) = rw add-suc (next_at (order_at k))

-- ---- what callers use, of the order of row 3 + k

pub order_next : (k : ℕ) → next_order (order k) ≡ order (k + 1)
unfolding order
order_next k = rw add-one refl

pub wnd_le : (k : ℕ) → (order k).wnd ≤ 3 + k
wnd_le k = omega (arith, (order_at k).row0_is)

pub row1_lt : (k : ℕ) → (order k).row1 < 3 + k
row1_lt k = omega (arith, row1_lt_wnd (order_at k), wnd_le k)

-- row1 is 0 where a window begins, and elsewhere the window has ended before the row before
pub row1_behind : (k : ℕ) → (order k).row1 < 2 + k
row1_behind k =
    let h = order_at k in
    elim (dec_lt 0 h.j) [
      | yes some ↦ omega (arith, h.row0_is, row1_lt_wnd h)
      | no none ↦
          let first : h.j ≡ 0 = omega arith in
          omega (arith, h.row1_is ∙ ap (λ (n : ℕ). n * (order k).stp % (order k).wnd) first ∙ ap (λ (n : ℕ). n % (order k).wnd) (zero-mul (order k).stp) ∙ zero-mod (order k).wnd)
    ]

pub sqrt_least : (k : ℕ) → 2 ≤ (order k).sqrt
sqrt_least k =
    let w = (order_at k).window in
    omega (arith, w.sqrt_is, pow-suc 2 w.a, pow_pos w.a)

pub sqrt_most : (k : ℕ) → (order k).sqrt ≤ 3 + k
sqrt_most k = omega (arith, (numbers (order k).rising (order_at k).window).sqrt_le, wnd_le k)

pub prev1_lt : (k : ℕ) → (order k).prev1 < 3 + k
prev1_lt k = omega (arith, (order_at k).prev1_lt, wnd_le k)

pub order_fits : (k : ℕ) → 3 + k ≤ 2 ^ 32 → Fits (order k)
order_fits k h =
    let n = numbers (order k).rising (order_at k).window in
    omega (arith, n, row1_lt_wnd (order_at k), wnd_le k)

-- ---- a loop over rows: o is the order of the row reached

pub record Reached (row : ℕ) (o : Order) : Type 0 where
  pub least : 3 ≤ row
  pub here : o ≡ order (row - 3)

pub reached_first : {o : Order} → o ≡ first_order → Reached 3 o
unfolding order
reached_first e = record { least = omega arith; here = e }

pub reached_next : {row : ℕ} {o p : Order} → Reached row o → p ≡ next_order o → Reached (row + 1) p
unfolding order
reached_next {row} q e =
    let more : row + 1 - 3 ≡ suc (row - 3) = omega (arith, q.least) in
    record { least = omega (arith, q.least); here = rw more (e ∙ ap next_order q.here) }

pub reached_fits : {row : ℕ} {o : Order} → Reached row o → row ≤ 2 ^ 32 → Fits o
reached_fits {row} q h = rw q.here (order_fits (row - 3) (omega (arith, q.least)))

pub reached_row1 : {row : ℕ} {o : Order} → Reached row o → (o.row1 ≡ row1_of row) × (row1_of row < row)
unfolding row1_of
reached_row1 {row} q = (ap (λ (o : Order). o.row1) q.here, omega (arith, q.least, row1_lt (row - 3)))
