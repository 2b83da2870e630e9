-- The lines of the Setup steps, one line more at a time. Assumes nothing.
use mathlib.Core.Path.{◌≡◌, ap, ◌∙◌}
use Prim.Native.Nat.{ℕ, suc, ◌+◌, ◌-◌, ◌*◌, ◌≤◌}
use native.Mathlib.Omega.{arith}
use mathlib.Core.List.{List, ◌++◌}
use Rattle.setup_order.specs.declared.Order.{Order}
use Rattle.setup_order.specs.SetupOrder.{row1_of}
use Rattle.setup_order.proofs.Windows.{Reached, reached_row1}
use Rattle.text.specs.Text.{Appended}
use Rattle.text.proofs.Appending.{nothing, ◌then◌, reworded}
use Rattle.walk_lines.specs.Lines.{line, step_lines}

-- the lines of the rows before this one are put
pub record Lined (a b : List ℕ) (row at : ℕ) : Type 0 where
  pub room : at ≤ 12 * (row - 3)
  pub put : Appended a b 0 (step_lines (row - 3)) at

pub lined_none : {a : List ℕ} → Lined a a 3 0
unfolding step_lines
lined_none {a} = record { room = omega arith; put = nothing a 0 (omega arith) }

pub lined_more : {a b c : List ℕ} {o : Order} {row at next : ℕ} → Lined a b row at → Reached row o
    → Appended b c at (line row o.row1) next → next ≤ at + 12 → Lined a c (row + 1) next
unfolding step_lines
lined_more {row = row} q o more few =
    let this : row ≡ 3 + (row - 3) = omega (arith, o.least) in
    let then_one : suc (row - 3) ≡ row + 1 - 3 = omega (arith, o.least) in
    record {
      room = omega (arith, q.room, o.least);
      put =
          reworded (q.put then more)
          (ap (λ (r : ℕ). step_lines (row - 3) ++ line row r) (reached_row1 o).0
          ∙ ap (λ (r : ℕ). step_lines (row - 3) ++ line r (row1_of r)) this ∙ ap step_lines then_one);
    }

pub lined_end : {a b : List ℕ} {row at rows : ℕ} → Lined a b row at → row ≡ rows → Appended a b 0 (step_lines (rows - 3)) at
lined_end q e = rw (← e) q.put
