-- What a derivation with several lanes counts, far below a word. Assumes nothing.
use mathlib.Core.Path.{◌≡◌, sym, ap, ◌∙◌}
use Prim.Native.Nat.{ℕ, ◌+◌, ◌-◌, ◌*◌, ◌≤◌}
use native.Mathlib.Nat.{mul_assoc}
use native.Mathlib.Decide.{dec_lt}
use native.Mathlib.Omega.{arith}
use lib.ListN.{get_or-eq_default}
use Rattle.lists.specs.Zip.{tabulate}
use Rattle.lists.proofs.ZipLaws.{length-tabulate, get_or-tabulate}
use Rattle.settings.specs.declared.Lengths.{Lengths}
use Rattle.padded_input.specs.Padded.{blocks}
use Rattle.columns.proofs.RowLaws.{row_before}
use Rattle.lanes.specs.Room.{Below}
use Rattle.derivation.proofs.Answering.{calls_sum}
use Rattle.lanes_derivation.specs.LanesCosts.{lane_blocks}

pub blocks_most : (l : Lengths) → l.password ≤ 1024 → l.salt ≤ 64 → lane_blocks l ≤ 18
unfolding lane_blocks blocks
blocks_most l password salt = omega arith

-- the reduced calls of Setup and of the visits
pub lanes_reduced : (p n R C T : ℕ) → p * n ≡ R → p * n * C + p * (n * T * C) ≡ R * C * (T + 1)
lanes_reduced p n R C T all =
    ap (λ (k : ℕ). p * n * C + k) (ap (λ (k : ℕ). p * k) (mul_assoc n T C) ∙ sym (mul_assoc p n (T * C)) ∙ sym (mul_assoc (p * n) T C))
    ∙ ap (λ (r : ℕ). r * C + r * T * C) all ∙ calls_sum R C T

-- the last rows of the lanes
pub last_below : (p n : ℕ) → 1 ≤ p → 1 ≤ n → Below (p * n) (tabulate p (λ i. i * n + (n - 1)))
last_below p n pos least i =
    elim (dec_lt i p) [
      | yes lt ↦ rw (get_or-tabulate p (λ j. j * n + (n - 1)) i lt) (omega (arith, row_before i p n lt))
      | no past ↦ rw (get_or-eq_default (tabulate p (λ j. j * n + (n - 1))) 0 {n = i} (omega (arith, length-tabulate p (λ j. j * n + (n - 1))))) (omega (arith, row_before 0 p n pos))
    ]
