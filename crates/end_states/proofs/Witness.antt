-- The theorem's hypotheses can be met, with visits and without: trials of one block each, whose passwords differ. Assumes nothing.
use mathlib.Core.Path.{◌≡◌, refl, ap}
use mathlib.Core.Logic.{◌≢◌}
use Prim.Native.Nat.{ℕ, zero, suc, ◌<◌, ◌*◌}
use native.Mathlib.Omega.{arith}
use mathlib.Core.List.{List, [], ◌∷◌}
use lib.ListN.{get_or, replicate}
use Rattle.lists.specs.Zip.{put_into}
use Rattle.mixer.specs.declared.Mixer.{Mixer}
use Rattle.settings.specs.Settings.{settings}
use Rattle.settings.specs.declared.Parameters.{Parameters}
use Rattle.padded_input.specs.Padded.{blocks}
use Rattle.input.specs.Input.{Input, input, lengths, input_blocks}
use Rattle.input.proofs.InputLaws.{length-padded-input}
use Rattle.refusals.specs.Checks.{first, cost_checks, plain_checks, recorded_checks}
use Rattle.derivation.specs.Answers.{costs, spent_on}
use Rattle.derivation.specs.Derivation.{key_of, end_state, end_matrix, end_record}
use Rattle.derivation.specs.Promises.{recorded_number}
use Rattle.derivation.proofs.Answering.{answered-yes, cost_yes}
use Rattle.end_states.specs.EndStates.{AtMostOneDiffers}
use Rattle.end_states.specs.Trials.{Trial, input_of, left_by}
use Rattle.end_states.proofs.Demand3.{end_states_settle_inputs}

-- R = 3, C = 1
abbrev pub least : ℕ → ℕ → ℕ → Mixer → Parameters
least T ρ ω v = record { time = T; rows = 3; columns = 1; rounds = ρ; rotation = ω; mixer = v }

pub zero_bytes : (n i : ℕ) → get_or (replicate n 0) i 0 < 256
zero_bytes zero i = omega arith
zero_bytes (suc n) zero = omega arith
zero_bytes (suc n) (suc i) = zero_bytes n i

-- a password of one byte, a salt of eight, a key of one
abbrev one_byte : ℕ → Input
one_byte b = input (b ∷ []) (replicate 8 0) 1

-- buffers that just fit are enough
abbrev Taken : ℕ → ℕ → ℕ → Mixer → ℕ → Type 0
Taken T ρ ω v b = recorded_number (least T ρ ω v) (one_byte b) (replicate 36 0) (replicate (6 * T) 0) ≡ 0

module _ (T ρ ω : ℕ) (v : Mixer) (b : ℕ) (h : b < 256) (taken : Taken T ρ ω v b) where
  pub none_refuses : (costs (lengths (one_byte b)) (least T ρ ω v)).refusal ≡ 0
  unfolding costs spent_on
  none_refuses = refl

  unfoldable pub trial : Trial (least T ρ ω v)
  trial =
      record {
        password = b ∷ [];
        salt = replicate 8 0;
        key = replicate 1 0;
        matrix = replicate 36 0;
        visited = replicate (6 * T) 0;
        key' = key_of (settings (least T ρ ω v)) (one_byte b) (replicate 36 0);
        matrix' = end_matrix (settings (least T ρ ω v)) (one_byte b) (replicate 36 0);
        visited' = put_into (replicate (6 * T) 0) (end_record (settings (least T ρ ω v)) (one_byte b) (replicate 36 0));
        costs = costs (lengths (one_byte b)) (least T ρ ω v);
        state = end_state (settings (least T ρ ω v)) (one_byte b) (replicate 36 0);
        meets =
            record {
              answer = cost_yes (lengths (one_byte b)) (least T ρ ω v) taken refl;
              state_is = answered-yes _ _ taken refl;
              key_after = answered-yes _ _ taken refl;
              matrix_after = answered-yes _ _ taken refl;
              visited_after = answered-yes _ _ taken refl;
            };
        accepted = none_refuses;
        password_bytes = λ i. elim i as (λ k. get_or (b ∷ []) k 0 < 256) [ zero ↦ h | suc j ↦ omega arith ];
        salt_bytes = zero_bytes 8;
      }

-- two of them have a block each, and their passwords differ where their bytes do
module _ (T ρ ω : ℕ) (v : Mixer) (b c : ℕ) (h : b < 256) (k : c < 256) (taken₁ : Taken T ρ ω v b) (taken₂ : Taken T ρ ω v c) where
  pub blocks_apart : AtMostOneDiffers (settings (least T ρ ω v)) 0 (input_of (trial T ρ ω v b h taken₁)) (input_of (trial T ρ ω v c k taken₂))
  unfolding input_blocks blocks trial
  blocks_apart =
      let one = length-padded-input (settings (least T ρ ω v)) (input_of (trial T ρ ω v b h taken₁)) in
      let other = length-padded-input (settings (least T ρ ω v)) (input_of (trial T ρ ω v c k taken₂)) in
      record { as_many = omega (arith, one, other); others = λ i lt n. absurd (n (omega (arith, one))) }

  pub passwords_tell_bytes : (trial T ρ ω v b h taken₁).password ≡ (trial T ρ ω v c k taken₂).password → b ≡ c
  unfolding trial
  passwords_tell_bytes e = ap (λ (l : List ℕ). get_or l 0 0) e

-- ---- T = 1, with records of 6 words, and T = 0, with records of none; with the usual choice, and with the most of ρ and ω; with either
-- mixer

module _ (v : Mixer) (b : ℕ) where
  pub taken_1 : Taken 1 1 2 v b
  unfolding first cost_checks plain_checks recorded_checks
  taken_1 = refl

  pub taken_0 : Taken 0 1 2 v b
  unfolding first cost_checks plain_checks recorded_checks
  taken_0 = refl

  pub taken_most : Taken 1 12 11 v b
  unfolding first cost_checks plain_checks recorded_checks
  taken_most = refl

-- two trials without visits: a block at most differs, both used records are empty, the inputs differ, and so do the end states
pub record WithoutVisits (v : Mixer) (x y : Trial (least 0 1 2 v)) : Type 0 where
  pub apart : AtMostOneDiffers (settings (least 0 1 2 v)) 0 (input_of x) (input_of y)
  pub no_records : ((left_by x).visited ≡ []) × ((left_by y).visited ≡ [])
  pub inputs_differ : x.password ≢ y.password
  pub ends_differ : (left_by x).state ≡ (left_by y).state → (left_by x).matrix ≢ (left_by y).matrix

pub without-visits : (v : Mixer) → WithoutVisits v (trial 0 1 2 v 0 (omega arith) (taken_0 v 0)) (trial 0 1 2 v 1 (omega arith) (taken_0 v 1))
without-visits v =
    let x = trial 0 1 2 v 0 (omega arith) (taken_0 v 0) in
    let y = trial 0 1 2 v 1 (omega arith) (taken_0 v 1) in
    let apart = blocks_apart 0 1 2 v 0 1 (omega arith) (omega arith) (taken_0 v 0) (taken_0 v 1) in
    let bytes = passwords_tell_bytes 0 1 2 v 0 1 (omega arith) (omega arith) (taken_0 v 0) (taken_0 v 1) in
    record {
      apart = apart;
      no_records = (refl, refl);
      inputs_differ = λ e. omega (arith, bytes e);
      ends_differ = λ states matrices. let alike = (end_states_settle_inputs (least 0 1 2 v) 0 x y apart).0 (record { states = states; matrices = matrices; records = refl }) in omega (arith, bytes alike.passwords);
    }
