-- Steps of the lanes in other orders than in turn.
use Rattle.std.specs.Prelude.{◌≡◌, cond, ℕ, ◌+◌, ◌*◌, ◌≤◌, ◌<◌, List, [], ◌∷◌, eqb}
use Rattle.lists.specs.Loop.{loop}
use Rattle.settings.specs.Settings.{Settings}
use Rattle.lanes.specs.LaneVisits.{Lanes, step, visit_of}

-- an order is a list of lanes: each takes that lane's next step
unfoldable pub run : {A : Type 0} → (ℕ → A → A) → List ℕ → A → A
run f [] a = a
run f (i ∷ l) a = run f l (f i a)

-- how often lane i has its turn
unfoldable pub turns : ℕ → List ℕ → ℕ
turns i [] = 0
turns i (j ∷ l) = cond (eqb i j) 1 0 + turns i l

-- each of p lanes has n turns, and nobody else has any
pub record Schedule (p n : ℕ) (l : List ℕ) : Type 0 where
  pub each : (i : ℕ) → i < p → turns i l ≡ n
  pub others : (i : ℕ) → p ≤ i → turns i l ≡ 0

-- the visits with an order of its own for each interval
unfoldable pub wander_by : Settings → ℕ → ℕ → (ℕ → List ℕ) → Lanes → Lanes
wander_by S p n orders l = loop (λ t. run (step (visit_of S p n t)) (orders t)) (n * S.time) l
