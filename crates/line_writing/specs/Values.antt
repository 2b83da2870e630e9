-- What a login line is written from.
use Rattle.std.specs.Prelude.{ℕ, ◌≤◌, ◌<◌, List}
use Rattle.settings.specs.declared.StoredParameters.{StoredParameters}
use Rattle.line_form.specs.Line.{Values, length_by}

abbrev pub values : StoredParameters → List ℕ → List ℕ → Values
values p salt key = record { parameters = p; salt = salt; key = key }

-- what the code goes by once the values are accepted
pub record WithinLimits (p : StoredParameters) (salt key : ℕ) : Type 0 where
  pub time_most : p.time < 100000
  pub rows_most : p.rows < 100000
  pub columns_most : p.columns < 100000
  pub salt_most : salt ≤ 64
  pub key_most : key ≤ 1024
  pub line_most : length_by p salt key ≤ 1480
