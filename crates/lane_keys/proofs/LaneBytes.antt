-- The bytes of the lanes' key, and of the states that they come from. Assumes nothing.
use mathlib.Core.Path.{◌≡◌, refl, sym, ap, ap₂, ◌∙◌}
use Prim.Native.Nat.{ℕ, zero, suc, ◌+◌, ◌*◌, ◌%◌, ◌^◌, ◌<◌, ◌≤◌}
use native.Mathlib.Nat.{zero-mul, mul-zero, mul-add, suc-mul, mul-le-mul}
use native.Mathlib.Numerals.{add-one}
use native.Mathlib.Decide.{ℕ_discrete}
use native.Mathlib.Omega.{arith}
use mathlib.Core.List.{List, []}
use lib.ListN.{length, get_or, set, replicate, length-set, length-replicate, get_or-replicate}
use lib.Seq.{get_or-set_same, get_or-set_other}
use lib.Bits.{bit_xor}
use Rattle.lists.specs.Loop.{loop}
use Rattle.lists.proofs.LoopLaws.{loop_more, loop_same}
use Rattle.lists.proofs.ZipLaws.{length_zip, get_or-zip}
use Rattle.key.specs.Key.{key_bytes, full_calls, squeezed, piece, pieces, calls_between, calls_before}
use Rattle.key_bytes.proofs.KeyLaws.{Squeezed, length_key, squeezed_none, squeezed_more, squeezed_byte}
use Rattle.lane_keys.specs.LaneKeys.{arrives, keys_xored}
use Rattle.lane_keys.specs.Arrived.{xored, Arrived}
use Rattle.key_bytes.specs.declared.Next.{Next}

module _ (sum : ℕ → ℕ → ℕ) (n : ℕ) (states : List (List ℕ)) where
  pub length-arrives : (i : ℕ) (key : List ℕ) → length (arrives sum n states i key) ≡ length key
  unfolding arrives
  length-arrives i key = length_zip bit_xor key _

  length-loop : (p : ℕ) → length (loop (arrives sum n states) p (replicate n 0)) ≡ n
  unfolding loop
  length-loop zero = length-replicate n 0
  length-loop (suc p) = length-arrives p _ ∙ length-loop p

  pub length_keys : (p : ℕ) → length (keys_xored sum p n states) ≡ n
  unfolding keys_xored
  length_keys p = length-loop p

  -- a byte of the key, from those of the lanes
  byte_loop : (p i : ℕ) → i < n → get_or (loop (arrives sum n states) p (replicate n 0)) i 0 ≡ xored (λ j. get_or (key_bytes sum n (get_or states j [])) i 0) p
  unfolding loop arrives
  byte_loop zero i lt = get_or-replicate n i 0 0 lt
  byte_loop (suc p) i lt =
      get_or-zip bit_xor _ _ i (omega (arith, length-loop p)) (omega (arith, length_key sum n (get_or states p [])))
      ∙ ap (λ (b : ℕ). bit_xor b (get_or (key_bytes sum n (get_or states p [])) i 0)) (byte_loop p i lt)

  pub keys_byte : (p i : ℕ) → i < n → get_or (keys_xored sum p n states) i 0 ≡ xored (λ j. get_or (key_bytes sum n (get_or states j [])) i 0) p
  unfolding keys_xored
  keys_byte p i lt = byte_loop p i lt

-- ---- a byte of each lane

-- the state and the byte of lane j
abbrev state_of : (ℕ → ℕ → ℕ) → ℕ → List (List ℕ) → ℕ → List ℕ
state_of sum i states j = full_calls sum (calls_before i) (get_or states j [])

abbrev byte_of : (ℕ → ℕ → ℕ) → ℕ → List (List ℕ) → ℕ → ℕ
byte_of sum i states j = get_or (piece (state_of sum i states j)) (i % 96) 0

-- byte i of the first `lane` lanes has come
pub record Arriving (sum : ℕ → ℕ → ℕ) (i : ℕ) (states₀ states : List (List ℕ)) (lane byte calls : ℕ) : Type 0 where
  pub as_many : length states ≡ length states₀
  pub called : (j : ℕ) → j < lane → get_or states j [] ≡ state_of sum i states₀ j
  pub kept : (j : ℕ) → lane ≤ j → get_or states j [] ≡ get_or states₀ j []
  pub byte_is : byte ≡ xored (byte_of sum i states₀) lane
  pub made : calls ≡ lane * calls_before i

module _ (sum : ℕ → ℕ → ℕ) (i : ℕ) (states₀ : List (List ℕ)) where
  pub arriving_none : Arriving sum i states₀ states₀ 0 0 0
  unfolding loop
  arriving_none = record { as_many = refl; called = λ j lt. absurd (omega arith); kept = λ j le. refl; byte_is = refl; made = sym (zero-mul (calls_before i)) }

  pub arriving_more : {states : List (List ℕ)} {lane byte calls : ℕ} → Arriving sum i states₀ states lane byte calls → lane < length states₀
      → (s : List ℕ) (b more : ℕ) → s ≡ full_calls sum (calls_before i) (get_or states lane []) → b ≡ get_or (piece s) (i % 96) 0 → more ≡ calls_before i
      → Arriving sum i states₀ (set states lane s) (lane + 1) (bit_xor byte b) (calls + more)
  unfolding loop
  arriving_more {states} {lane} {byte} {calls} q lt s b more es eb em =
      let here : s ≡ state_of sum i states₀ lane = es ∙ ap (full_calls sum (calls_before i)) (q.kept lane (omega arith)) in
      let more_lanes : (lane + 1) * calls_before i ≡ lane * calls_before i + calls_before i = rw (add-one lane) (suc-mul lane (calls_before i)) in
      record {
        as_many = length-set states lane s ∙ q.as_many;
        called = λ j less. elim (ℕ_discrete j lane) [
          | yes same ↦ rw same (get_or-set_same states lane s [] (omega (arith, q.as_many)) ∙ here)
          | no other ↦ get_or-set_other states lane j s [] other ∙ q.called j (omega arith)
        ];
        kept = λ j le. get_or-set_other states lane j s [] (λ e. omega arith) ∙ q.kept j (omega arith);
        byte_is = loop_more (λ k x. bit_xor x (byte_of sum i states₀ k)) lane 0 byte _ q.byte_is (ap (bit_xor byte) (eb ∙ ap (λ (l : List ℕ). get_or (piece l) (i % 96) 0) here));
        made = omega (arith, q.made, more_lanes);
      }

  pub arriving_end : {states : List (List ℕ)} {lane p byte calls : ℕ} → Arriving sum i states₀ states lane byte calls → lane ≡ p
      → Arrived sum p i states₀ states (record { byte = byte; calls = calls })
  arriving_end q e =
      record { as_many = q.as_many; called = λ j lt. q.called j (omega arith); byte = q.byte_is ∙ ap (xored (byte_of sum i states₀)) e; calls = q.made ∙ ap (λ (n : ℕ). n * calls_before i) e }

pub calls_one : (i : ℕ) → calls_before i ≤ 1
unfolding pieces
calls_one i = omega arith

pub calls_few : (n : ℕ) → calls_between n ≤ n
unfolding pieces
calls_few n = omega arith

-- ---- byte after byte

pub record AllSqueezed (sum : ℕ → ℕ → ℕ) (p : ℕ) (states₀ : List (List ℕ)) (i : ℕ) (states : List (List ℕ)) (calls : ℕ) : Type 0 where
  pub as_many : length states ≡ length states₀
  pub left : (j : ℕ) → j < p → get_or states j [] ≡ squeezed sum i (get_or states₀ j [])
  pub made : calls ≡ p * calls_between i

module _ (sum : ℕ → ℕ → ℕ) (p : ℕ) where
  pub all_none : {states : List (List ℕ)} → AllSqueezed sum p states 0 states 0
  unfolding pieces
  all_none = record { as_many = refl; left = λ j lt. (squeezed_none sum).left; made = sym (mul-zero p) }

  module _ {states₀ states states' : List (List ℕ)} {i calls : ℕ} {r : Next} (q : AllSqueezed sum p states₀ i states calls) (a : Arrived sum p i states states' r) where
    lane_squeezed : (j : ℕ) → j < p → Squeezed sum (get_or states₀ j []) i (get_or states j []) (calls_between i)
    lane_squeezed j lt = record { left = q.left j lt; made = refl }

    pub all_more : AllSqueezed sum p states₀ (i + 1) states' (calls + r.calls)
    unfolding pieces
    all_more =
        let between : calls_between i + calls_before i ≡ calls_between (i + 1) = omega arith in
        record {
          as_many = a.as_many ∙ q.as_many;
          left = λ j lt. (squeezed_more sum (lane_squeezed j lt) (a.called j lt) (calls_before i) refl).left;
          made = ap₂ (λ (x y : ℕ). x + y) q.made a.calls ∙ sym (mul-add p (calls_between i) (calls_before i)) ∙ ap (λ (k : ℕ). p * k) between;
        }

    pub all_byte : (n : ℕ) → i < n → r.byte ≡ get_or (keys_xored sum p n states₀) i 0
    all_byte n lt =
        a.byte
        ∙ loop_same _ _ p 0 (λ j less b. ap (bit_xor b) (squeezed_byte sum (lane_squeezed j less) refl n _ lt refl))
        ∙ sym (keys_byte sum n states₀ p i lt)

  pub all_end : {states₀ states : List (List ℕ)} {i n calls : ℕ} → AllSqueezed sum p states₀ i states calls → i ≡ n → calls ≡ p * calls_between n
  all_end q e = q.made ∙ ap (λ (k : ℕ). p * calls_between k) e

  pub all_few : {states₀ states : List (List ℕ)} {i calls : ℕ} → AllSqueezed sum p states₀ i states calls → p < 2 ^ 16 → i ≤ 2 ^ 32 → calls ≤ 2 ^ 48
  all_few {i = i} q few short =
      let most : calls_between i ≤ 2 ^ 32 = omega (arith, calls_few i) in
      let lanes : p ≤ 2 ^ 16 = omega arith in
      omega (arith, q.made, mul-le-mul lanes most)
