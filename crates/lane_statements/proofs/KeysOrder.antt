-- The lanes' keys may arrive in any order. Assumes nothing.
use mathlib.Core.Path.{◌≡◌, sym, ap, ◌∙◌}
use mathlib.Core.Logic.{◌≢◌}
use Prim.Native.Nat.{ℕ, ◌<◌}
use mathlib.Core.List.{List, []}
use lib.ListN.{get_or, replicate}
use lib.Bits.{bit_xor, xor_comm}
use Rattle.lists.specs.Loop.{loop}
use Rattle.lists.specs.Zip.{xor_into, zip_at}
use Rattle.lists.proofs.Parts.{zip_at_swap}
use Rattle.mixer.proofs.WordLaws.{xor_assoc}
use Rattle.key.specs.Key.{key_bytes}
use Rattle.lanes.specs.Orders.{run, Schedule}
use Rattle.lanes.proofs.AnyOrder.{any_order}
use Rattle.lane_keys.specs.LaneKeys.{arrives, keys_xored}

xors_swap : (k a b : List ℕ) → xor_into (xor_into k b) a ≡ xor_into (xor_into k a) b
unfolding zip_at
xors_swap k a b =
    let turns : (u x y : ℕ) → bit_xor (bit_xor u y) x ≡ bit_xor (bit_xor u x) y = λ u x y. xor_assoc u y x ∙ ap (bit_xor u) (xor_comm y x) ∙ sym (xor_assoc u x y) in
    zip_at_swap bit_xor bit_xor turns 0 0 k a b

module _ (sum : ℕ → ℕ → ℕ) (p n : ℕ) (states : List (List ℕ)) where
  arrivals_swap : (i j : ℕ) → i < p → j < p → i ≢ j → (key : List ℕ) → Unit {0} → arrives sum n states i (arrives sum n states j key) ≡ arrives sum n states j (arrives sum n states i key)
  unfolding arrives
  arrivals_swap i j hi hj ne key good = xors_swap key (key_bytes sum n (get_or states i [])) (key_bytes sum n (get_or states j []))

  pub keys_any_order : (arrival : List ℕ) → Schedule p 1 arrival → run (arrives sum n states) arrival (replicate n 0) ≡ keys_xored sum p n states
  unfolding keys_xored loop
  keys_any_order arrival scheduled =
      any_order p (arrives sum n states) (λ key. Unit {0}) (λ i lt key good. tt) arrivals_swap 1 arrival scheduled (replicate n 0) tt
