-- What the walk program writes for its input. Bytes are in ASCII: 32 is the space, 10 is the newline.
use Rattle.std.specs.Prelude.{ℕ, ◌-◌, cond, List, [], ◌∷◌, ◌++◌, eqb}
use Rattle.refusals.specs.Checks.{first, rows_check}
use Rattle.decimal.specs.Decimal.{decimal}
use Rattle.walk_input.specs.Input.{rows_read}
use Rattle.walk_lines.specs.Lines.{step_lines}

-- the word `refused` and the number
unfoldable pub refused_line : ℕ → List ℕ
refused_line number = (114 ∷ 101 ∷ 102 ∷ 117 ∷ 115 ∷ 101 ∷ 100 ∷ 32 ∷ []) ++ decimal number ++ (10 ∷ [])

-- the whole output for an input
unfoldable pub walk_output : List ℕ → List ℕ
walk_output input =
    let R = rows_read input in
    let number = first (rows_check R ∷ []) in
    cond (eqb number 0) (step_lines (R - 3)) (refused_line number)
