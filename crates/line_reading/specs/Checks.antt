-- The checks of what a line of the form says.
use Rattle.std.specs.Prelude.{ℕ, List, [], ◌∷◌, ◌++◌}
use Rattle.refusals.specs.Checks.{◌≤?◌, Check, output_check, stored_checks}
use Rattle.line_form.specs.Promises.{LineValues}

abbrev pub values_checks : LineValues → List Check
values_checks v = stored_checks v.key v.salt (record { time = v.time; rows = v.rows; columns = v.columns })

abbrev pub room_checks : LineValues → ℕ → ℕ → List Check
room_checks v salt_room key_room = output_check (v.salt ≤? salt_room ∷ v.key ≤? key_room ∷ []) ∷ []

unfoldable pub said_checks : LineValues → ℕ → ℕ → List Check
said_checks v salt_room key_room = values_checks v ++ room_checks v salt_room key_room
