-- An answer under a C name: its number is returned, and its other fields are stored where the caller lends a place for them.
use Rattle.std.specs.Prelude.{Bool, ℕ, List, get_or, Option, Some, None, Result, Ok, Err}
use Rattle.mixer.specs.Mixers.{mixer_of}
use Rattle.settings.specs.declared.Parameters.{Parameters}
use Rattle.settings.specs.declared.StoredParameters.{StoredParameters}
use Rattle.settings.specs.declared.Lengths.{Lengths}
use Rattle.refusals.specs.declared.Refusal.{Refusal}
use Rattle.derivation.specs.Answers.{Costs}
use Rattle.choice.specs.declared.Limits.{Limits}
use Rattle.choice.specs.Choice.{Choice}
use Rattle.line_form.specs.Promises.{LineValues, LineLength}
use Rattle.accounts.specs.Accounts.{nothing}
use Rattle.accounts.specs.Promises.{BookAnswer}
use Rattle.accounts.specs.declared.Entry.{Entry}

abbrev pub parameters : ℕ → ℕ → ℕ → ℕ → ℕ → Bool → Parameters
parameters T R C ρ ω blamka =
    record { time = T; rows = R; columns = C; rounds = ρ; rotation = ω; mixer = mixer_of blamka }

abbrev pub stored_parameters : ℕ → ℕ → ℕ → StoredParameters
stored_parameters T R C = record { time = T; rows = R; columns = C }

abbrev pub lengths_of : ℕ → ℕ → ℕ → Lengths
lengths_of key password salt = record { key = key; password = password; salt = salt }

-- the costs that a returned number and three stored counts are
abbrev pub stored : ℕ → List ℕ → Costs
stored number counts = record { refusal = number; full = get_or counts 0 0; reduced = get_or counts 1 0; rounds = get_or counts 2 0 }

abbrev pub limits_of : ℕ → ℕ → ℕ → ℕ → Limits
limits_of words budget rounds tries = record { words = words; budget = budget; rounds = rounds; tries = tries }

-- the choice that a returned number and four stored numbers are
abbrev pub stored_choice : ℕ → List ℕ → Choice
stored_choice number values =
    record {
      refusal = number;
      time = get_or values 0 0;
      rows = get_or values 1 0;
      columns = get_or values 2 0;
      shortfall = get_or values 3 0;
    }

-- the values of a line that a returned number and five stored numbers are
abbrev pub stored_values : ℕ → List ℕ → LineValues
stored_values number values =
    record {
      refusal = number;
      time = get_or values 0 0;
      rows = get_or values 1 0;
      columns = get_or values 2 0;
      salt = get_or values 3 0;
      key = get_or values 4 0;
    }

abbrev pub stored_length : ℕ → ℕ → LineLength
stored_length number length = record { refusal = number; length = length }

-- the answer about a book that a returned number and a stored place are
abbrev pub stored_place : ℕ → ℕ → BookAnswer
stored_place number place = record { refusal = number; place = place }

-- the account that a returned size and six stored numbers are
abbrev pub stored_entry : ℕ → List ℕ → Entry
stored_entry size values =
    record {
      size = size;
      number = get_or values 0 0;
      parameters = stored_parameters (get_or values 1 0) (get_or values 2 0) (get_or values 3 0);
      salt = get_or values 4 0;
      key = get_or values 5 0;
    }

-- what is given, or zeros where a check refused
abbrev pub given_or : {A : Type 0} → A → Result A Refusal → A
given_or zeros (Ok a) = a
given_or zeros (Err r) = zeros

abbrev pub entry_or_nothing : Option Entry → Entry
entry_or_nothing (Some e) = e
entry_or_nothing None = nothing
