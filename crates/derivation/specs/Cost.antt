-- The calls of a derivation, and the rounds of all of them.
use Rattle.std.specs.Prelude.{ℕ, ◌+◌, ◌*◌}
use Rattle.profile.specs.Profile.{full_rounds}
use Rattle.settings.specs.Settings.{Settings}
use Rattle.settings.specs.declared.Lengths.{Lengths}
use Rattle.input.specs.Input.{input_blocks}
use Rattle.key.specs.Key.{pieces}

unfoldable pub full_cost : Lengths → ℕ
full_cost l = input_blocks l + pieces l.key

abbrev pub reduced_cost : Settings → ℕ
reduced_cost S = S.rows * S.columns * (S.time + 1)

abbrev pub rounds_cost : Settings → ℕ → ℕ → ℕ
rounds_cost S full reduced = full_rounds * full + S.rounds * reduced
