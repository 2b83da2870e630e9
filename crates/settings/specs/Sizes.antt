-- How many words a derivation uses of what it is lent.
use Rattle.std.specs.Prelude.{ℕ, ◌+◌, ◌*◌}
use Rattle.profile.specs.Profile.{cell_words}
use Rattle.settings.specs.Settings.{Settings}

-- the used matrix
abbrev pub matrix_words : Settings → ℕ
matrix_words S = cell_words * (S.rows * S.columns)

-- the visits, the words of one in the record, for its rows and for each column (request 108), and the used record
abbrev pub visit_count : Settings → ℕ
visit_count S = S.rows * S.time

abbrev pub visit_words : Settings → ℕ
visit_words S = 1 + S.columns

abbrev pub record_words : Settings → ℕ
record_words S = visit_count S * visit_words S
