-- Lanes change the used matrix alone, whatever their states are. Assumes nothing.
use mathlib.Core.Path.{◌≡◌, ◌∙◌, subst}
use Prim.Native.Nat.{ℕ, ◌+◌, ◌-◌, ◌*◌, ◌/◌, ◌%◌, ◌≤◌, ◌<◌}
use native.Mathlib.Nat.{mod-lt, add-zero}
use native.Mathlib.Omega.{arith}
use mathlib.Core.List.{List}
use Rattle.lists.specs.Zip.{cleared}
use Rattle.lists.proofs.LoopLaws.{loop_keeps_below}
use Rattle.settings.specs.Settings.{Settings}
use Rattle.setup_order.specs.SetupOrder.{order}
use Rattle.setup_order.proofs.Windows.{row1_lt}
use Rattle.columns.specs.Columns.{picked_by}
use Rattle.columns.proofs.RowLaws.{row_before}
use Rattle.columns.proofs.Within.{ChangesWithin, within_loop, fill_column_within, copy_column_within, setup_column_within, output_within}
use Rattle.lane_columns.specs.LaneColumns.{lane_column}
use Rattle.setup.specs.Setup.{fill_row, copy_row, setup_row, first_rows, rows_with, setup_step, setup_rows}
use Rattle.lanes.specs.Lanes.{Works}
use Rattle.lanes.specs.Meetings.{first_row, rows_in}
use Rattle.lanes.specs.LaneSetup.{lane_first_rows, lane_setup, setup_in_turn, setup_lanes}
use Rattle.lanes.specs.LaneVisits.{LaneWalk, Lanes, half_row, picked_lane_rows, visited_row, visit_of, visits_of, visits_in_turn, wander_lanes}
use Rattle.lanes.proofs.Halves.{in_lane_lem}
use Rattle.lanes.proofs.InTurn.{row_least}
use Rattle.input.specs.Input.{Input}
use Rattle.lanes_derivation.specs.LanesDerivation.{rows_each, lanes_setup_end, lanes_end}

module _ (S : Settings) (p n : ℕ) where
  abbrev C : ℕ
  C = S.columns

  abbrev N : ℕ
  N = p * n * C

  abbrev rest : Works → List ℕ
  rest w = cleared (12 * N) w.matrix

  -- a row of a lane
  lane_row : (i row : ℕ) → i < p → row < n → (i * n + row) * C + C ≤ N
  lane_row i row hi hr = row_before (i * n + row) (p * n) C (omega (arith, row_before i p n hi))

  -- ---- Setup
  module _ (i : ℕ) (hi : i < p) where
    fill_within : (row : ℕ) → row < n → ChangesWithin N (fill_row S (i * n + row))
    unfolding fill_row
    fill_within row lt = within_loop N _ C (λ col less. fill_column_within S N col less (i * n + row) (lane_row i row hi lt))

    copy_within : (prev0 row : ℕ) → row < n → ChangesWithin N (copy_row S prev0 (i * n + row))
    unfolding copy_row
    copy_within prev0 row lt = within_loop N _ C (λ col less. copy_column_within S N col less prev0 (i * n + row) (lane_row i row hi lt))

    first_within : 3 ≤ n → ChangesWithin N (first_rows S (i * n))
    unfolding first_rows
    first_within least w =
        copy_within (i * n + 1) 2 (omega arith) _ ∙ copy_within (i * n) 1 (omega arith) _
        ∙ subst (λ (row : ℕ). cleared (12 * N) (fill_row S row w).matrix ≡ cleared (12 * N) w.matrix) (add-zero (i * n)) (fill_within 0 (omega arith) w)

    step_within : (j k : ℕ) → j < p → 3 + k < n → ChangesWithin N (setup_step S (i * n) (j * n) k)
    unfolding setup_step setup_row
    step_within j k hj lt =
        within_loop N _ C
        (λ col less. setup_column_within S N col less (rows_with (i * n) (j * n) k (order k)) (lane_row i (3 + k) hi lt) (lane_row j (order k).row1 hj (omega (arith, row1_lt k))))

    rows_within : (j k count : ℕ) → j < p → ((d : ℕ) → d < count → 3 + (k + d) < n) → ChangesWithin N (setup_rows S (i * n) (j * n) k count)
    unfolding setup_rows
    rows_within j k count hj inside = within_loop N _ count (λ d less. step_within j (k + d) hj (inside d less))

  setup_within : 3 ≤ n → 1 ≤ p → (w : Works) → rest (setup_lanes S p n w) ≡ rest w
  unfolding setup_lanes setup_in_turn lane_setup lane_first_rows
  setup_within least pos w =
      loop_keeps_below rest _ n
      (λ t less. loop_keeps_below rest _ p
      (λ i hi v. rows_within i hi ((i + t) % p) (first_row t - 3) (rows_in n t) (mod-lt (i + t) pos) (in_rows t) _)) _
      ∙ loop_keeps_below rest _ p (λ i hi v. first_within i hi least _) w
    where
      in_rows : (t d : ℕ) → d < rows_in n t → 3 + (first_row t - 3 + d) < n
      in_rows t d less = omega (arith, row_least t)

  -- ---- the visits
  module _ (half : 2 ≤ n) (t i : ℕ) (hi : i < p) where
    visited_within : (s : List ℕ) (prev0 : ℕ) → ChangesWithin N (visited_row S (picked_lane_rows S p n t i s prev0))
    unfolding visited_row picked_lane_rows lane_column
    visited_within s prev0 =
        let x = picked_by S 0 (n / 2) s in
        let inside = in_lane_lem n i t x (mod-lt _ (omega arith)) in
        within_loop N _ C (λ col less w. output_within S N col less (half_row n i t x) (row_before (half_row n i t x) (p * n) C (omega (arith, inside, row_before i p n hi))) _ _)

    lane_within : (count : ℕ) (w : LaneWalk) → cleared (12 * N) (visits_of S p n t i count w).done.matrix ≡ cleared (12 * N) w.done.matrix
    unfolding visits_of visit_of
    lane_within count = loop_keeps_below (λ (w : LaneWalk). cleared (12 * N) w.done.matrix) _ count (λ k less v. visited_within v.done.state v.prev0 v.done)

  wander_within : 2 ≤ n → (l : Lanes) → rest (wander_lanes S p n l).done ≡ rest l.done
  unfolding wander_lanes visits_in_turn
  wander_within half =
      loop_keeps_below (λ (l : Lanes). rest l.done) _ (n * S.time) (λ t less. loop_keeps_below (λ (l : Lanes). rest l.done) _ p (λ i hi l. lane_within half t i hi _ _))

-- a whole derivation
pub lanes_within : (S : Settings) (p : ℕ) (x : Input) (m : List ℕ) → 1 ≤ p → 3 ≤ rows_each S p
    → cleared (12 * (p * rows_each S p * S.columns)) (lanes_end S p x m).done.matrix ≡ cleared (12 * (p * rows_each S p * S.columns)) m
unfolding lanes_end lanes_setup_end
lanes_within S p x m pos least =
    wander_within S p (rows_each S p) (omega arith) _ ∙ setup_within S p (rows_each S p) least pos _
