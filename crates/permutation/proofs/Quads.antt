-- The table of quads: each quad has four distinct positions of the state. Assumes nothing.
use mathlib.Core.Logic.{◌≢◌}
use Prim.Native.Nat.{ℕ, zero, suc, ◌<◌}
use native.Mathlib.Omega.{arith}
use native.Mathlib.Nat.{not-suc-le-zero, le_of_suc-le-suc}
use mathlib.Core.List.{List, [], ◌∷◌}
use lib.ListN.{length, get_or}
use Rattle.profile.specs.declared.Quad.{Quad}
use Rattle.profile.specs.Profile.{quads}
use Rattle.permutation.specs.Round.{Inside}

-- four positions of the state, each another
pub record Spread (q : Quad) : Type 0 where
  pub inside : Inside q
  pub apart : (q.0 ≢ q.1) × (q.0 ≢ q.2) × (q.0 ≢ q.3) × (q.1 ≢ q.2) × (q.1 ≢ q.3) × (q.2 ≢ q.3)

-- a property of every element of a list
abbrev pub Each : (Quad → Type 0) → List Quad → Type 0
Each P [] = Unit {0}
Each P (q ∷ qs) = P q × Each P qs

pub each_at : (P : Quad → Type 0) (qs : List Quad) (d : Quad) → Each P qs → (n : ℕ) → n < length qs → P (get_or qs n d)
each_at P [] d all n h = absurd (not-suc-le-zero h)
each_at P (q ∷ qs) d all zero h = all.0
each_at P (q ∷ qs) d all (suc n) h = each_at P qs d all.1 n (le_of_suc-le-suc h)

pub quads_spread : Each Spread quads
unfolding quads
quads_spread =
    (omega arith, (omega arith, (omega arith, (omega arith, (omega arith, (omega arith, (omega arith, (omega arith, tt))))))))
