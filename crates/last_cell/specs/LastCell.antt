-- The state that a key is squeezed from.
use Rattle.std.specs.Prelude.{ℕ, List}
use Rattle.profile.specs.Profile.{full_rounds}
use Rattle.sponge.specs.Sponge.{absorb}
use Rattle.settings.specs.Settings.{Settings}
use Rattle.columns.specs.Columns.{Work, cell_of}

-- the first cell of the row that was visited last, absorbed with a full call
abbrev pub last_absorbed : Settings → ℕ → Work → List ℕ
last_absorbed S row0 w = absorb S.addition.sum full_rounds (cell_of S row0 0 w.matrix) w.state
