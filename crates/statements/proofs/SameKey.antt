-- One key: plain or recorded, over whatever memory, the same input has the same key, and a check says yes exactly where the stored bytes
-- are that key. Assumes nothing.
use mathlib.Core.Path.{◌≡◌, refl, sym, ap, ◌∙◌}
use mathlib.Core.Logic.{◌↔◌}
use Prim.Native.Nat.{ℕ, ◌≤◌, ◌<◌}
use native.Mathlib.Omega.{arith}
use mathlib.Core.Bool.{Bool, true, false}
use mathlib.Core.List.{List}
use lib.ListN.{length, get_or}
use Rattle.mixer.proofs.Additions.{undoes}
use Rattle.settings.specs.Settings.{settings}
use Rattle.settings.specs.Sizes.{matrix_words}
use Rattle.settings.specs.declared.Parameters.{Parameters}
use Rattle.input.specs.Input.{Input, lengths}
use Rattle.key.specs.Key.{same_bytes}
use Rattle.lists.proofs.EveryLaws.{same_of_equal, equal_of_same}
use Rattle.refusals.specs.Checks.{cost_checks, plain_checks, recorded_checks}
use Rattle.refusals.proofs.Accepted.{accepted}
use Rattle.derivation.specs.Answers.{Costs, flag}
use Rattle.derivation.specs.Derivation.{key_of}
use Rattle.derivation.specs.Promises.{plain_number, Derived, Compared, Recorded}
use Rattle.derivation.proofs.Answering.{answered_is, accepted_number}
use Rattle.end_states.proofs.Walks.{key_of_any_matrix}

-- 1 stands for yes alone
flag-yes : (b : Bool) → flag b ≡ 1 → b ≡ true
flag-yes true e = refl
flag-yes false e = absurd (omega arith)

-- bytes are the key of an input over some matrix that has room
pub record KeyOver (p : Parameters) (x : Input) (key matrix : List ℕ) : Type 0 where
  pub rows_least : 3 ≤ p.rows
  pub columns_pos : 1 ≤ p.columns
  pub room : matrix_words (settings p) ≤ length matrix
  pub is : key ≡ key_of (settings p) x matrix

module _ (p : Parameters) (x : Input) where
  plain_over : (matrix : List ℕ) {key : List ℕ} → plain_number p x matrix ≡ 0 → key ≡ key_of (settings p) x matrix → KeyOver p x key matrix
  unfolding plain_checks cost_checks
  plain_over matrix none e =
      let h = accepted (plain_checks (lengths x) p (length matrix)) (omega arith) none in
      record { rows_least = omega arith; columns_pos = omega arith; room = omega arith; is = e }

  pub derivation_gives : (key matrix key' matrix' : List ℕ) (r : Costs) → Derived p x key matrix key' matrix' r → r.refusal ≡ 0 → KeyOver p x key' matrix
  derivation_gives key matrix key' matrix' r d z =
      let none = accepted_number (lengths x) p d.answer z in plain_over matrix none (answered_is _ _ none d.key_after)

  pub recorded_gives : (key matrix visited key' matrix' visited' : List ℕ) (r : Costs) (state : List ℕ)
      → Recorded p x key matrix visited key' matrix' visited' r state → r.refusal ≡ 0 → KeyOver p x key' matrix
  unfolding recorded_checks plain_checks cost_checks
  recorded_gives key matrix visited key' matrix' visited' r state d z =
      let none = accepted_number (lengths x) p d.answer z in
      let h = accepted (recorded_checks (lengths x) p (length matrix) (length visited)) (omega arith) none in
      record { rows_least = omega arith; columns_pos = omega arith; room = omega arith; is = answered_is _ _ none d.key_after }

  module _ (password_bytes : (i : ℕ) → get_or x.password i 0 < 256) (salt_bytes : (i : ℕ) → get_or x.salt i 0 < 256) where
    pub same_key : (key₁ matrix₁ key₂ matrix₂ : List ℕ) → KeyOver p x key₁ matrix₁ → KeyOver p x key₂ matrix₂ → key₁ ≡ key₂
    same_key key₁ matrix₁ key₂ matrix₂ a b =
        a.is
        ∙ key_of_any_matrix (settings p) (undoes p.mixer) a.rows_least a.columns_pos x password_bytes salt_bytes matrix₁ matrix₂ a.room b.room
        ∙ sym b.is

    -- yes exactly where the stored bytes are the key, over whatever memory the key was made
    pub check_settles : (stored matrix matrix' : List ℕ) (r : Costs) (same : ℕ) → Compared p x stored matrix matrix' r same → r.refusal ≡ 0
        → (key over : List ℕ) → KeyOver p x key over → (same ≡ 1) ↔ (stored ≡ key)
    check_settles stored matrix matrix' r same c z key over k =
        let none = accepted_number (lengths x) p c.answer z in
        let there = plain_over matrix none refl in
        let e = same_key _ matrix key over there k in
        let answer = answered_is _ _ none c.same_is in (
          λ yes. equal_of_same stored _ (flag-yes _ (sym answer ∙ yes)) ∙ e,
          λ equal. answer ∙ ap flag (ap (same_bytes stored) (e ∙ sym equal) ∙ same_of_equal stored),
        )
