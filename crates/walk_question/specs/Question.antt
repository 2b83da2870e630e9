-- The walk question: row1 of the Setup step that fills row0, of R rows.
use Rattle.std.specs.Prelude.{ℕ, cond, eqb, Result, Ok, Err}
use Rattle.refusals.specs.Checks.{first, walk_checks}
use Rattle.refusals.specs.Refusals.{number_of}
use Rattle.refusals.specs.declared.Refusal.{Refusal}
use Rattle.setup_order.specs.SetupOrder.{row1_of}

-- the number is 0 where the question is answered
pub record WalkAnswer : Type 0 where
  pub refusal : ℕ
  pub row1 : ℕ

-- refused, only the number is given
unfoldable pub walk_answer : ℕ → ℕ → WalkAnswer
walk_answer R row0 =
    let number = first (walk_checks R row0) in
    record { refusal = number; row1 = cond (eqb number 0) (row1_of row0) 0 }

-- the code's answer
abbrev pub walked_answer : Result ℕ Refusal → WalkAnswer
walked_answer (Ok row1) = record { refusal = 0; row1 = row1 }
walked_answer (Err r) = record { refusal = number_of r; row1 = 0 }
