-- Between two meetings the lanes' visits may be made in any order: each lane writes one half of its own rows, and all that is read is of
-- its own rows or of the other halves, which nobody writes. Assumes nothing.
use mathlib.Core.Path.{◌≡◌, refl, sym, ap, ap₂, ◌∙◌, subst}
use mathlib.Core.Logic.{◌≢◌}
use Prim.Native.Nat.{ℕ, zero, suc, ◌+◌, ◌*◌, ◌/◌, ◌%◌, ◌<◌, ◌≤◌}
use native.Mathlib.Nat.{mod-lt, zero-mul, one-mul}
use native.Mathlib.Decide.{ℕ_discrete, dec_lt}
use native.Mathlib.Omega.{arith}
use mathlib.Core.List.{List, [], ◌∷◌}
use borrow.Author.Tests.{ne_eqb}
use lib.ListN.{length, get_or, set, length-set}
use lib.Seq.{get_or-set_same, get_or-set_other, set-get_or, set-set, set_comm}
use Rattle.lists.specs.Loop.{loop}
use Rattle.settings.specs.Settings.{Settings}
use Rattle.columns.specs.Columns.{work, picked_by}
use Rattle.columns.specs.declared.Rows.{Rows}
use Rattle.columns.proofs.RowLaws.{row_before}
use Rattle.lanes.specs.Meetings.{visits_in}
use Rattle.lanes.specs.LaneVisits.{LaneWalk, lane_walk, Lanes, half_row, picked_lane_rows, visited_row, visit_of, visits_of, walk_of, put, step, visits_in_turn, wander_lanes}
use Rattle.lanes.specs.Orders.{run, turns, Schedule, wander_by}
use Rattle.lanes.proofs.Halves.{in_lane_lem}
use Rattle.lanes.proofs.AnyOrder.{any_order}
use Rattle.lanes.proofs.TwoLanes.{Spares, visits_swap}

-- what is known between visits: each lane has a state, and the row that it visited last is its own
pub record Good (p n : ℕ) (l : Lanes) : Type 0 where
  pub states : p ≤ length l.done.states
  pub prevs : p ≤ length l.prevs
  pub own : (i : ℕ) → i < p → (i * n ≤ get_or l.prevs i 0) × (get_or l.prevs i 0 < i * n + n)

-- ---- rows

-- rows of two lanes
lanes-differ : (n i j a b : ℕ) → i ≢ j → i * n ≤ a → a < i * n + n → j * n ≤ b → b < j * n + n → a ≢ b
lanes-differ n i j a b ne la ma lb mb e =
    elim (dec_lt i j) [
      | yes less ↦ omega (arith, row_before i j n less)
      | no ge ↦ omega (arith, row_before j i n (other_way i j ne ge))
    ]
  where
    other_way : (x y : ℕ) → x ≢ y → (x < y → ⊥) → y < x
    other_way x y other past = omega (arith, other, past)

-- rows of the two halves, of whichever lanes
halves_differ : (n i j t x y : ℕ) → x < n / 2 → y < n / 2 → half_row n i t x ≢ half_row n j (suc t) y
halves_differ n i j t x y lx ly =
    elim (ℕ_discrete i j) [
      | yes same ↦ λ e. within (rw same at e)
      | no other ↦ lanes-differ n i j _ _ other (in_lane_lem n i t x lx).0 (in_lane_lem n i t x lx).1 (in_lane_lem n j (suc t) y ly).0 (in_lane_lem n j (suc t) y ly).1
    ]
  where
    even_odd : (a b : ℕ) → a ≡ 0 → b ≡ 1 → a * (n / 2) + x ≡ b * (n / 2) + y → ⊥
    even_odd a b ea eb e = omega (arith, ap (λ (k : ℕ). k * (n / 2)) ea ∙ zero-mul (n / 2), ap (λ (k : ℕ). k * (n / 2)) eb ∙ one-mul (n / 2), e)

    odd_even : (a b : ℕ) → a ≡ 1 → b ≡ 0 → a * (n / 2) + x ≡ b * (n / 2) + y → ⊥
    odd_even a b ea eb e = omega (arith, ap (λ (k : ℕ). k * (n / 2)) ea ∙ one-mul (n / 2), ap (λ (k : ℕ). k * (n / 2)) eb ∙ zero-mul (n / 2), e)

    within : half_row n j t x ≡ half_row n j (suc t) y → ⊥
    within e =
        let inner : t % 2 * (n / 2) + x ≡ suc t % 2 * (n / 2) + y = omega (arith, e) in
        elim (ℕ_discrete (t % 2) 0) [
          | yes even ↦ even_odd (t % 2) (suc t % 2) even (omega arith) inner
          | no odd ↦ odd_even (t % 2) (suc t % 2) (omega (arith, odd)) (omega (arith, odd)) inner
        ]

module _ (S : Settings) (p n t : ℕ) (half : 2 ≤ n) where
  abbrev rows_of : ℕ → Lanes → Rows
  rows_of i l = picked_lane_rows S p n t i (get_or l.done.states i []) (get_or l.prevs i 0)

  -- lane i writes no row that lane j uses
  spares : (i j : ℕ) → i < p → j < p → i ≢ j → (l : Lanes) → Good p n l → Spares (rows_of i l) (rows_of j l)
  unfolding picked_lane_rows
  spares i j hi hj ne l good =
      let s = get_or l.done.states i [] in
      let u = get_or l.done.states j [] in
      let picked : (k : ℕ) (x : List ℕ) → picked_by S k (n / 2) x < n / 2 = λ k x. mod-lt _ (omega arith) in
      let own = in_lane_lem n i t (picked_by S 0 (n / 2) s) (picked 0 s) in
      let theirs = in_lane_lem n j t (picked_by S 0 (n / 2) u) (picked 0 u) in
      let before = good.own j hj in
      record {
        row0 = lanes-differ n j i _ _ (λ e. ne (sym e)) theirs.0 theirs.1 own.0 own.1;
        row1 = λ e. halves_differ n i (picked_by S 2 p u) t (picked_by S 0 (n / 2) s) (picked_by S 1 (n / 2) u) (picked 0 s) (picked 1 u) (sym e);
        prev0 = lanes-differ n j i _ _ (λ e. ne (sym e)) before.0 before.1 own.0 own.1;
      }

  -- ---- visits

  abbrev visit : ℕ → Lanes → Lanes
  visit = step (visit_of S p n t)

  visit_keeps : (i : ℕ) → i < p → (l : Lanes) → Good p n l → Good p n (visit i l)
  unfolding visit_of picked_lane_rows
  visit_keeps i hi l good =
      let x = picked_by S 0 (n / 2) (get_or l.done.states i []) in
      record {
        states = omega (arith, good.states, length-set l.done.states i (visit_of S p n t i (walk_of i l)).done.state);
        prevs = omega (arith, good.prevs, length-set l.prevs i (half_row n i t x));
        own = λ j hj. elim (ℕ_discrete j i) [
          | yes here ↦ rw (here, get_or-set_same l.prevs i (half_row n i t x) 0 (omega (arith, good.prevs))) (in_lane_lem n i t x (mod-lt _ (omega arith)))
          | no other ↦ rw (get_or-set_other l.prevs i j (half_row n i t x) 0 other) (good.own j hj)
        ];
      }

  visit_swap : (i j : ℕ) → i < p → j < p → i ≢ j → (l : Lanes) → Good p n l → visit i (visit j l) ≡ visit j (visit i l)
  unfolding visit_of
  visit_swap i j hi hj ne l good =
      let states = l.done.states in
      let s = get_or states i [] in
      let u = get_or states j [] in
      let m = l.done.matrix in
      let r = rows_of i l in
      let r' = rows_of j l in
      let v = visited_row S r (work s m) in
      let w = visited_row S r' (work u m) in
      let e = visits_swap S r r' (spares i j hi hj ne l good) (spares j i hj hi (λ q. ne (sym q)) l good) s u m in
      let mine : walk_of i (visit j l) ≡ lane_walk (work s w.matrix) (get_or l.prevs i 0) =
      λ k. lane_walk (work (get_or-set_other states j i w.state [] ne k) w.matrix) (get_or-set_other l.prevs j i r'.row0.0 0 ne k) in
      let theirs : walk_of j (visit i l) ≡ lane_walk (work u v.matrix) (get_or l.prevs j 0) =
      λ k. lane_walk (work (get_or-set_other states i j v.state [] (λ q. ne (sym q)) k) v.matrix) (get_or-set_other l.prevs i j r.row0.0 0 (λ q. ne (sym q)) k) in
      ap (λ (x : LaneWalk). put i (visit_of S p n t i x) (visit j l)) mine
      ∙ (λ k. record {
        done = record { states = (ap₂ (λ (a b : List ℕ). set (set states j a) i b) e.1 e.0 ∙ set_comm states j i _ _ (λ q. ne (sym q))) k; matrix = e.2 k };
        prevs = set_comm l.prevs j i r'.row0.0 r.row0.0 (λ q. ne (sym q)) k;
      })
      ∙ ap (λ (x : LaneWalk). put j (visit_of S p n t j x) (visit i l)) (sym theirs)

  -- one lane's visits, made one by one
  one_by_one : (i : ℕ) → i < p → (count : ℕ) (l : Lanes) → Good p n l → loop (λ k. visit i) count l ≡ step (λ j. visits_of S p n t j count) i l
  unfolding loop visits_of
  one_by_one i hi zero l good =
      λ k. record { done = record { states = sym (set-get_or l.done.states i []) k; matrix = l.done.matrix }; prevs = sym (set-get_or l.prevs i 0) k }
  one_by_one i hi (suc count) l good =
      let w = visits_of S p n t i count (walk_of i l) in
      let back : walk_of i (put i w l) ≡ w =
      λ k. lane_walk (work (get_or-set_same l.done.states i w.done.state [] (omega (arith, good.states)) k) w.done.matrix) (get_or-set_same l.prevs i w.prev0 0 (omega (arith, good.prevs)) k) in
      let v = visit_of S p n t i w in
      ap (visit i) (one_by_one i hi count l good)
      ∙ ap (λ (x : LaneWalk). put i (visit_of S p n t i x) (put i w l)) back
      ∙ (λ k. record { done = record { states = set-set l.done.states i w.done.state v.done.state k; matrix = v.done.matrix }; prevs = set-set l.prevs i w.prev0 v.prev0 k })

  visits_keep : (i count : ℕ) → i < p → (l : Lanes) → Good p n l → Good p n (loop (λ k. visit i) count l)
  unfolding loop
  visits_keep i zero hi l good = good
  visits_keep i (suc count) hi l good = visit_keeps i hi _ (visits_keep i count hi l good)

  -- the lanes in turn, visit by visit, and what is known after so many lanes
  in_turn_lem : (count q : ℕ) → q ≤ p → (l : Lanes) → Good p n l
      → (loop (λ i. loop (λ k. visit i) count) q l ≡ loop (step (λ i. visits_of S p n t i count)) q l) × Good p n (loop (λ i. loop (λ k. visit i) count) q l)
  unfolding loop
  in_turn_lem count zero le l good = (refl, good)
  in_turn_lem count (suc q) le l good =
      let before = in_turn_lem count q (omega arith) l good in (
        one_by_one q (omega arith) count _ before.1 ∙ ap (step (λ i. visits_of S p n t i count) q) before.0,
        visits_keep q count (omega arith) _ before.1,
      )

  -- an interval: any order of the lanes' visits, each lane's own in sequence, ends with the same states, rows and matrix as the lanes in turn
  pub interval_any_order : (count : ℕ) (order : List ℕ) → Schedule p count order → (l : Lanes) → Good p n l → run visit order l ≡ visits_in_turn S p n t count l
  unfolding visits_in_turn
  interval_any_order count order scheduled l good =
      any_order p visit (Good p n) visit_keeps visit_swap count order scheduled l good ∙ (in_turn_lem count p (omega arith) l good).0

  pub interval_keeps : (count : ℕ) (l : Lanes) → Good p n l → Good p n (visits_in_turn S p n t count l)
  unfolding visits_in_turn
  interval_keeps count l good = subst (Good p n) (in_turn_lem count p (omega arith) l good).0 (in_turn_lem count p (omega arith) l good).1

-- all of Wandering: with any order in each interval
module _ (S : Settings) (p n : ℕ) (half : 2 ≤ n) (orders : ℕ → List ℕ) (scheduled : (t : ℕ) → Schedule p (visits_in S n t) (orders t)) where
  by_orders : (k : ℕ) (l : Lanes) → Good p n l
      → (loop (λ t. run (step (visit_of S p n t)) (orders t)) k l ≡ loop (λ t. visits_in_turn S p n t (visits_in S n t)) k l) × Good p n (loop (λ t. visits_in_turn S p n t (visits_in S n t)) k l)
  unfolding loop
  by_orders zero l good = (refl, good)
  by_orders (suc k) l good =
      let before = by_orders k l good in (
        ap (run (step (visit_of S p n k)) (orders k)) before.0 ∙ interval_any_order S p n k half (visits_in S n k) (orders k) (scheduled k) _ before.1,
        interval_keeps S p n k half (visits_in S n k) _ before.1,
      )

  pub wander_any_order : (l : Lanes) → Good p n l → wander_by S p n orders l ≡ wander_lanes S p n l
  unfolding wander_by wander_lanes
  wander_any_order l good = (by_orders (n * S.time) l good).0

-- ---- there are other orders than in turn: two lanes with a visit each, lane 1 first

pub in_turn_order : List ℕ
in_turn_order = 0 ∷ 1 ∷ []

pub other_order : List ℕ
other_order = 1 ∷ 0 ∷ []

scheduled_two : (order : List ℕ) → turns 0 order ≡ 1 → turns 1 order ≡ 1 → ((i : ℕ) → 2 ≤ i → turns i order ≡ 0) → Schedule 2 1 order
scheduled_two order zero-once one-once others =
    record { each = λ i lt. elim (ℕ_discrete i 0) [ yes here ↦ rw here zero-once | no past ↦ rw (second i lt past) one-once ]; others = others }
  where
    second : (i : ℕ) → i < 2 → i ≢ 0 → i ≡ 1
    second i lt past = omega (arith, past)

pub other_orders : Schedule 2 1 in_turn_order × Schedule 2 1 other_order × (in_turn_order ≢ other_order)
unfolding in_turn_order other_order turns
other_orders = (
  scheduled_two in_turn_order refl refl (λ i le. rw (ne_eqb i 0 (λ e. omega arith), ne_eqb i 1 (λ e. omega arith)) refl),
  scheduled_two other_order refl refl (λ i le. rw (ne_eqb i 0 (λ e. omega arith), ne_eqb i 1 (λ e. omega arith)) refl),
  λ e. let first : ◌≡◌ {A = ℕ} 0 1 = ap (λ (l : List ℕ). get_or l 0 0) e in omega (arith, first),
)
