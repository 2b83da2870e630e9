-- Where the rows of the lanes lie, and the lanes in turn: a lane more, and lanes that have nothing to do. Assumes nothing.
use mathlib.Core.Path.{◌≡◌, refl, sym, ap, ap₂, ◌∙◌}
use mathlib.Core.Logic.{◌⊎◌, inl, inr}
use Prim.Native.Nat.{ℕ, zero, suc, ◌+◌, ◌-◌, ◌*◌, ◌/◌, ◌≤◌, ◌<◌, min}
use native.Mathlib.Nat.{add-zero, add-suc, mul-le-mul, le_trans, mul-le-mul_right, mul-le-mul_left, one-mul, mul-one, zero-mul, mul-add, add-mul, suc-mul}
use native.Mathlib.Decide.{ℕ_discrete, dec_lt}
use native.Mathlib.Numerals.{add-one}
use native.Mathlib.Omega.{arith}
use mathlib.Core.List.{List, []}
use lib.ListN.{length, set}
use lib.Seq.{get_or-set_same, get_or-set_other, set-get_or, set_out}
use Rattle.lists.specs.Loop.{loop}
use Rattle.lists.proofs.LoopLaws.{loop_idle}
use Rattle.settings.specs.Settings.{Settings}
use Rattle.setup_order.specs.SetupOrder.{order}
use Rattle.setup_order.proofs.Windows.{sqrt_least, sqrt_most}
use Rattle.setup.specs.Setup.{setup_rows}
use Rattle.setup.specs.Reach.{Reach}
use Rattle.columns.proofs.RowLaws.{row_before}
use Rattle.lanes.specs.Lanes.{Works}
use Rattle.lanes.specs.Meetings.{first_row, first_visit, rows_in, visits_in, sqrt_after}
use Rattle.lanes.specs.LaneSetup.{lane_setup, setup_in_turn}
use Rattle.lanes.specs.LaneVisits.{Lanes, visits_of, visits_in_turn}
use Rattle.lanes.specs.Room.{Room, Below}

-- ---- rows

-- the first `rows` of n rows of two lanes
module _ {C p n words : ℕ} (rows : ℕ) (h : Room C p n words) (le : rows ≤ n) where
  inside : (i : ℕ) → i < p → i * n + rows ≤ p * n
  inside i lt = omega (arith, row_before i p n lt)

  room : (i : ℕ) → i < p → 12 * ((i * n + rows) * C) ≤ words
  room i lt = omega (arith, h.room, mul-le-mul_right C (inside i lt))

  lanes_apart : (i j : ℕ) → (i * n ≡ j * n) ⊎ ((i * n + rows ≤ j * n) ⊎ (j * n + rows ≤ i * n))
  lanes_apart i j =
      elim (ℕ_discrete i j) [
        | yes same ↦ inl (ap (λ (a : ℕ). a * n) same)
        | no other ↦ elim (dec_lt i j) [
          | yes before ↦ inr (inl (omega (arith, row_before i j n before)))
          | no after ↦ inr (inr (omega (arith, row_before j i n (omega arith))))
        ]
      ]

  pub lane_reach : (i j : ℕ) → i < p → j < p → Reach C (i * n) (j * n) rows words
  lane_reach i j hi hj =
      record { own_fits = omega (arith, inside i hi, h.rows_most); other_fits = omega (arith, inside j hj, h.rows_most); own_room = room i hi; other_room = room j hj; apart = lanes_apart i j }

-- one number of a list changed
pub below_set : {R : ℕ} (xs : List ℕ) (i x : ℕ) → Below R xs → x < R → Below R (set xs i x)
below_set {R} xs i x h lt j =
    elim (ℕ_discrete j i) [
      | yes here ↦ elim (dec_lt i (length xs)) [
        | yes inside ↦ rw (here, get_or-set_same xs i x 0 inside) lt
        | no out ↦ rw (set_out xs i x (omega arith)) (h j)
      ]
      | no other ↦ rw (get_or-set_other xs i j x 0 other) (h j)
    ]

-- ---- visits

module _ (sqrt : ℕ) where
  -- the last visit of an interval is before that with which the next one begins
  pub visit_end : (t : ℕ) → (t + 1) * sqrt + 1 ≡ first_visit sqrt (t + 1)
  unfolding first_visit
  visit_end t = rw (add-one t)

  pub visit-zero : first_visit sqrt 0 ≡ 0
  unfolding first_visit
  visit-zero = refl

  pub visit-later : (t i : ℕ) → t ≤ i → first_visit sqrt t ≤ first_visit sqrt i
  unfolding first_visit
  visit-later zero i le = omega arith
  visit-later (suc t) zero le = absurd (omega arith)
  visit-later (suc t) (suc i) le = omega (arith, mul-le-mul_right sqrt le)

  -- so many intervals have all visits
  pub visits_reached : (all k : ℕ) → all ≤ k * sqrt → all ≤ first_visit sqrt k
  unfolding first_visit
  visits_reached all zero h = omega (arith, zero-mul sqrt)
  visits_reached all (suc k) h = omega arith

  -- the next interval begins sqrt visits later, and the second one after sqrt + 1
  pub visit-first : first_visit sqrt 1 ≡ sqrt + 1
  unfolding first_visit
  visit-first = ap (λ (n : ℕ). n + 1) (one-mul sqrt)

  pub visit_next : (t : ℕ) → first_visit sqrt (suc (suc t)) ≡ first_visit sqrt (suc t) + sqrt
  unfolding first_visit
  visit_next t = omega (arith, suc-mul (suc t) sqrt)

  -- as many visits as intervals, at least, and no more than sqrt + 1 in one
  pub visit_least : 1 ≤ sqrt → (t : ℕ) → t ≤ first_visit sqrt t
  unfolding first_visit
  visit_least pos zero = omega arith
  visit_least pos (suc t) = omega (arith, mul-le-mul_left (suc t) pos, mul-one (suc t))

  pub visit_steps : 1 ≤ sqrt → (t : ℕ) → (first_visit sqrt t < first_visit sqrt (suc t)) × (first_visit sqrt (suc t) ≤ first_visit sqrt t + sqrt + 1)
  visit_steps pos zero = omega (arith, visit-first, visit-zero)
  visit_steps pos (suc t) = omega (arith, visit_next t)

-- an interval has the steps from its first one on, of which there are none past the last of all
pub steps_between : (a b all first end : ℕ) → first ≡ min a all → end ≡ min b all → end - first ≡ min b all - a
steps_between a b all first end e f = omega arith

-- its calls, beside those of the steps before it
pub calls_so_far : (lanes now C first end sum calls : ℕ) → now ≡ lanes → first ≤ end → sum ≡ lanes * (first * C) → calls ≡ now * ((end - first) * C) → sum + calls ≡ lanes * (end * C)
calls_so_far p now C a b sum calls as_many le e f =
    let whole : a + (b - a) ≡ b = omega arith in
    ap₂ (λ (x y : ℕ). x + y) e (f ∙ ap (λ (n : ℕ). n * ((b - a) * C)) as_many)
    ∙ sym (mul-add p (a * C) ((b - a) * C)) ∙ ap (λ (n : ℕ). p * n) (sym (add-mul a (b - a) C) ∙ ap (λ (n : ℕ). n * C) whole)

-- lanes without a visit
pub visits_none : (S : Settings) (p n t : ℕ) (l : Lanes) → visits_in_turn S p n t 0 l ≡ l
unfolding visits_in_turn visits_of loop
visits_none S p n t l =
    loop_idle _ 0 p l (omega arith)
    (λ i le b j. record { done = record { states = set-get_or b.done.states i [] j; matrix = b.done.matrix }; prevs = set-get_or b.prevs i 0 j })

-- intervals that begin after the last visit
pub visits_over : (S : Settings) (p n t k : ℕ) (l : Lanes) → n * S.time ≤ first_visit (sqrt_after n) t → t ≤ k
    → loop (λ i. visits_in_turn S p n i (visits_in S n i)) t l ≡ loop (λ i. visits_in_turn S p n i (visits_in S n i)) k l
visits_over S p n t k l past le =
    sym (loop_idle _ t k l le
    (λ i later b.
    let none : visits_in S n i ≡ 0 = omega (arith, visit-later (sqrt_after n) t i later) in
    ap (λ (count : ℕ). visits_in_turn S p n i count b) none ∙ visits_none S p n i b))

-- ---- products, far below a word

pub record Few (p n T C : ℕ) : Type 0 where
  pub rows : n ≤ 16384
  pub lanes : p ≤ 16384
  pub visits : n * T ≤ 4177920
  pub calls : n * T * C ≤ 1069547520

pub few : {C p n words : ℕ} (T : ℕ) → Room C p n words → T ≤ 255 → Few p n T C
few {C} {p} {n} T h most =
    let rows : n ≤ 16384 = omega (arith, h.rows_most, mul-le-mul_right n h.lanes_pos, one-mul n) in
    let lanes : p ≤ 16384 = omega (arith, h.rows_most, h.rows_least, mul-le-mul_left p h.rows_least) in
    let visits : n * T ≤ 4177920 = mul-le-mul rows most in
    record { rows = rows; lanes = lanes; visits = visits; calls = le_trans (mul-le-mul visits h.columns_most) (omega arith) }

pub sqrt_range : {C p n words : ℕ} → Room C p n words → (2 ≤ sqrt_after n) × (sqrt_after n ≤ 16384)
sqrt_range {n = n} h = (sqrt_least (n - 3), omega (arith, sqrt_most (n - 3), h.rows_least, (few 0 h (omega arith)).rows))

-- so many steps of each lane
pub calls_most : (p c C : ℕ) → p ≤ 16384 → c ≤ 4177920 → C ≤ 256 → p * (c * C) ≤ 17523466567680
calls_most p c C hp hc hC = le_trans (mul-le-mul hp (mul-le-mul hc hC)) (omega arith)

-- ---- rows of Setup

pub row_first : (first_row 0 ≡ 3) × (first_row 1 ≡ 5)
unfolding first_row
row_first = (refl, refl)

pub row_next : (t : ℕ) → first_row (suc (suc t)) ≡ first_row (suc t) + (order (first_row (suc t) - 3)).sqrt / 2
unfolding first_row
row_next t = refl

-- there are more rows than intervals before one, so that each interval has one
pub row_least : (t : ℕ) → t + 3 ≤ first_row t
row_least zero = omega (arith, row_first)
row_least (suc zero) = omega (arith, row_first)
row_least (suc (suc t)) = omega (arith, row_next t, sqrt_least (first_row (suc t) - 3), row_least (suc t))

pub row_steps : (t : ℕ) → (first_row t < first_row (suc t)) × (first_row (suc t) ≤ 2 * first_row t)
row_steps zero = omega (arith, row_first)
row_steps (suc t) = omega (arith, row_next t, sqrt_least (first_row (suc t) - 3), sqrt_most (first_row (suc t) - 3), row_least (suc t))

row_after : (t d : ℕ) → first_row t ≤ first_row (t + d)
row_after t zero = omega (arith, ap first_row (add-zero t))
row_after t (suc d) = omega (arith, row_after t d, (row_steps (t + d)).0, ap first_row (add-suc t d))

pub row_later : (t i : ℕ) → t ≤ i → first_row t ≤ first_row i
row_later t i le =
    let whole : t + (i - t) ≡ i = omega arith in
    omega (arith, row_after t (i - t), ap first_row whole)

-- lanes that fill no row, and intervals that begin after the last row
pub rows_none : (S : Settings) (p n t k : ℕ) (w : Works) → setup_in_turn S p n t k 0 w ≡ w
unfolding setup_in_turn lane_setup setup_rows loop
rows_none S p n t k w =
    loop_idle _ 0 p w (omega arith) (λ i le b j. record { states = set-get_or b.states i [] j; matrix = b.matrix })

pub rows_over : (S : Settings) (p n t k : ℕ) (w : Works) → n ≤ first_row t → t ≤ k
    → loop (λ i. setup_in_turn S p n i (first_row i - 3) (rows_in n i)) t w ≡ loop (λ i. setup_in_turn S p n i (first_row i - 3) (rows_in n i)) k w
rows_over S p n t k w past le =
    sym (loop_idle _ t k w le
    (λ i later b.
    let none : rows_in n i ≡ 0 = omega (arith, row_later t i later) in
    ap (λ (count : ℕ). setup_in_turn S p n i (first_row i - 3) count b) none ∙ rows_none S p n i (first_row i - 3) b))
