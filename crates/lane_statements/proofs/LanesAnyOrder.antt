-- Every order of the lanes' visits between two meetings, and every order in which their keys arrive, ends with the same states and matrix
-- and gives the same key as the lanes in turn: for every accepted call. Assumes nothing.
use mathlib.Core.Path.{◌≡◌, ap, ◌∙◌}
use Prim.Native.Nat.{ℕ, ◌+◌, ◌-◌, ◌*◌, ◌≤◌}
use native.Mathlib.Omega.{arith}
use mathlib.Core.List.{List}
use lib.ListN.{length, length-set, length-replicate}
use Rattle.lists.proofs.LoopLaws.{loop_keeps}
use Rattle.lists.proofs.ZipLaws.{length-tabulate, get_or-tabulate}
use Rattle.profile.specs.Profile.{start}
use Rattle.settings.specs.Settings.{Settings, settings, usual}
use Rattle.settings.specs.declared.StoredParameters.{StoredParameters}
use Rattle.input.specs.Input.{Input, lengths}
use Rattle.lanes.specs.Lanes.{Works, works}
use Rattle.lanes.specs.Meetings.{visits_in}
use Rattle.lanes.specs.LaneSetup.{lane_first_rows, lane_setup, setup_in_turn, setup_lanes}
use Rattle.lanes.specs.LaneVisits.{Lanes}
use Rattle.lanes.specs.Orders.{Schedule}
use Rattle.lanes.proofs.VisitsOrder.{Good, wander_any_order}
use Rattle.lane_keys.specs.LaneKeys.{keys_xored}
use Rattle.lanes_derivation.specs.LanesDerivation.{rows_each, absorb_lane, input_states, lanes_setup_end, lanes_end, final_states, lanes_key_of}
use Rattle.lanes_derivation.specs.LanesContracts.{lanes_number}
use Rattle.lanes_deriving.proofs.LanesEnds.{bounded, roomy}
use Rattle.lane_statements.specs.LanesOrders.{lanes_end_by, lanes_key_by}
use Rattle.lane_statements.proofs.KeysOrder.{keys_any_order}

-- ---- what is known after Setup

inputs_many : (S : Settings) (p : ℕ) (x : Input) → length (input_states S p x) ≡ p
unfolding input_states
inputs_many S p x = loop_keeps length (absorb_lane S p x) p (λ i states. length-set states i _) _ ∙ length-replicate p start

setup_many : (S : Settings) (p n : ℕ) (w : Works) → length (setup_lanes S p n w).states ≡ length w.states
unfolding setup_lanes setup_in_turn lane_setup lane_first_rows
setup_many S p n w =
    loop_keeps many _ n (λ t. loop_keeps many _ p (λ i v. length-set v.states i _)) _ ∙ loop_keeps many _ p (λ i v. length-set v.states i _) w
  where
    many : Works → ℕ
    many v = length v.states

begins_good : (S : Settings) (p : ℕ) (x : Input) (m : List ℕ) → 1 ≤ rows_each S p → Good p (rows_each S p) (lanes_setup_end S p x m)
unfolding lanes_setup_end
begins_good S p x m least =
    let n = rows_each S p in
    let last : ℕ → ℕ = λ i. i * n + (n - 1) in
    record {
      states = omega (arith, setup_many S p n (works (input_states S p x) m), inputs_many S p x);
      prevs = omega (arith, length-tabulate p last);
      own = λ i lt. rw (get_or-tabulate p last i lt) (omega arith, omega arith);
    }

-- ---- any orders

module _ (q : StoredParameters) (lanes : ℕ) (x : Input) (m : List ℕ) (none : lanes_number q lanes x m ≡ 0) where
  abbrev S : Settings
  S = settings (usual q)

  module _ (orders : ℕ → List ℕ) (scheduled : (t : ℕ) → Schedule lanes (visits_in S (rows_each S lanes) t) (orders t)) where
    -- the same states, matrix and rows
    pub end_any_order : lanes_end_by S lanes x m orders ≡ lanes_end S lanes x m
    unfolding lanes_end_by lanes_end
    end_any_order =
        let b = bounded (lengths x) q lanes (roomy (lengths x) q lanes (length m) none).0 in
        wander_any_order S lanes (rows_each S lanes) (omega (arith, b.rows_least)) orders scheduled _ (begins_good S lanes x m (omega (arith, b.rows_least)))

    -- and the same key
    pub lanes_any_order : (arrival : List ℕ) → Schedule lanes 1 arrival → lanes_key_by S lanes x m orders arrival ≡ lanes_key_of S lanes x m
    unfolding lanes_key_by lanes_key_of
    lanes_any_order arrival arrives =
        keys_any_order S.addition.sum lanes x.key_length (final_states S lanes (lanes_end_by S lanes x m orders)) arrival arrives
        ∙ ap (λ (l : Lanes). keys_xored S.addition.sum lanes x.key_length (final_states S lanes l)) end_any_order
