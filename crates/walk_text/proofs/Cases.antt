-- The walk program's worked inputs: 8, 3, and 2, which is outside the limits. Assumes nothing.
use mathlib.Core.Path.{◌≡◌, refl}
use mathlib.Core.List.{[], ◌∷◌, ◌++◌}
use Rattle.refusals.specs.Checks.{first}
use Rattle.setup_order.specs.SetupOrder.{first_order, moved, new_window, next_order, order, row1_of}
use Rattle.decimal.specs.Decimal.{decimal_up_to, number_from}
use Rattle.walk_input.specs.Input.{rows_read}
use Rattle.walk_lines.specs.Lines.{line, step_lines}
use Rattle.walk_text.specs.Output.{refused_line, walk_output}

-- `3 1`, `4 0`, `5 3`, `6 2`, `7 1`
pub output_for_8 : walk_output (56 ∷ 10 ∷ [])
    ≡ (51 ∷ 32 ∷ 49 ∷ 10 ∷ []) ++ (52 ∷ 32 ∷ 48 ∷ 10 ∷ []) ++ (53 ∷ 32 ∷ 51 ∷ 10 ∷ []) ++ (54 ∷ 32 ∷ 50 ∷ 10 ∷ []) ++ (55 ∷ 32 ∷ 49 ∷ 10 ∷ [])
unfolding walk_output rows_read number_from first step_lines line decimal_up_to row1_of order next_order new_window moved first_order
output_for_8 = refl

pub output_for_3 : walk_output (51 ∷ 10 ∷ []) ≡ []
unfolding walk_output rows_read number_from first step_lines
output_for_3 = refl

-- `refused 5`
pub output_for_2 : walk_output (50 ∷ 10 ∷ []) ≡ 114 ∷ 101 ∷ 102 ∷ 117 ∷ 115 ∷ 101 ∷ 100 ∷ 32 ∷ 53 ∷ 10 ∷ []
unfolding walk_output rows_read number_from first refused_line decimal_up_to
output_for_2 = refl
