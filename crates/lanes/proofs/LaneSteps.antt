-- The code changes one lane of a list: that lane's state and row, with the matrix, make a step of all lanes. Assumes nothing.
use Rattle.std.proofs.Common.{◌≡◌, ap, ap₂, sym, ◌∙◌, ℕ, ◌*◌, ◌<◌, List, [], length, get_or, set}
use Rattle.std.proofs.lemmas.List.{map-set, length-map, length-set}
use Rattle.std.proofs.Math.Seq.{map-set_same}
use lib.ListN.{get_or-map}
use Rattle.columns.specs.Columns.{Work, work}
use Rattle.lanes.specs.Lanes.{works, in_lane, put_work}
use Rattle.lanes.specs.LaneVisits.{LaneWalk, lane_walk, lanes, put, step}
use Rattle.lanes.specs.LaneLists.{states_of, prevs_of, walk, works_of, lanes_of, Ready}
use Rattle.lanes.proofs.InTurn.{below_set}
use Rattle.lanes.specs.declared.Lane.{Lane}

-- what stands past the end of a list
abbrev pub no_lane : Lane
no_lane = record { state = []; prev = 0 }

pub length_states : (l : List Lane) → length (states_of l) ≡ length l
length_states l = length-map l _

pub length_prevs : (l : List Lane) → length (prevs_of l) ≡ length l
length_prevs l = length-map l _

module _ (l : List Lane) (i : ℕ) where
  pub state_at : get_or (states_of l) i [] ≡ (get_or l i no_lane).state
  state_at = get_or-map (λ (x : Lane). x.state) l i no_lane

  pub prev_at : get_or (prevs_of l) i 0 ≡ (get_or l i no_lane).prev
  prev_at = get_or-map (λ (x : Lane). x.prev) l i no_lane

  pub states_set : (x : Lane) → states_of (set l i x) ≡ set (states_of l) i x.state
  states_set x = map-set (λ (y : Lane). y.state) l i x

  pub prevs_set : (x : Lane) → prevs_of (set l i x) ≡ set (prevs_of l) i x.prev
  prevs_set x = map-set (λ (y : Lane). y.prev) l i x

  -- what is as it was
  pub states_kept : (x : Lane) → x.state ≡ (get_or l i no_lane).state → states_of (set l i x) ≡ states_of l
  states_kept x e = map-set_same (λ (y : Lane). y.state) l i x no_lane e

  pub prevs_kept : (x : Lane) → x.prev ≡ (get_or l i no_lane).prev → prevs_of (set l i x) ≡ prevs_of l
  prevs_kept x e = map-set_same (λ (y : Lane). y.prev) l i x no_lane e

  -- a step of the state
  pub states_step : (f : List ℕ → List ℕ) (x : Lane) → x.state ≡ f (get_or l i no_lane).state → states_of (set l i x) ≡ set (states_of l) i (f (get_or (states_of l) i []))
  states_step f x e = states_set x ∙ ap (set (states_of l) i) (e ∙ ap f (sym state_at))

  -- a step of the state and the matrix
  pub works_step : (f : Work → Work) (x : Lane) (m m' : List ℕ) → work x.state m' ≡ f (work (get_or l i no_lane).state m) → works_of (set l i x) m' ≡ in_lane i f (works_of l m)
  works_step f x m m' e =
      ap (λ (s : List (List ℕ)). works s m') (states_set x)
      ∙ ap (λ (w : Work). put_work i w (works_of l m)) (e ∙ ap (λ (s : List ℕ). f (work s m)) (sym state_at))

  -- a step of all that a lane goes on with
  pub lanes_step : (f : LaneWalk → LaneWalk) (x : Lane) (m m' : List ℕ) → walk x m' ≡ f (walk (get_or l i no_lane) m) → lanes_of (set l i x) m' ≡ step (λ j. f) i (lanes_of l m)
  lanes_step f x m m' e =
      ap₂ (λ (s : List (List ℕ)) (r : List ℕ). lanes (works s m') r) (states_set x) (prevs_set x)
      ∙ ap (λ (w : LaneWalk). put i w (lanes_of l m)) (e ∙ ap₂ (λ (s : List ℕ) (r : ℕ). f (lane_walk (work s m) r)) (sym state_at) (sym prev_at))

  pub ready_set : {C n words : ℕ} (x : Lane) → Ready C n words l → x.prev < length l * n → Ready C n words (set l i x)
  ready_set x r lt = record { room = rw length-set r.room; rows = rw (length-set, prevs_set) (below_set (prevs_of l) i x.prev r.rows lt) }
