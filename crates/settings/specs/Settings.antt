-- What a derivation goes by.
use Rattle.std.specs.Prelude.{ℕ}
use Rattle.mixer.specs.Word.{Addition}
use Rattle.mixer.specs.Mixers.{addition_of}
use Rattle.mixer.specs.declared.Mixer.TheVariants.{Plain}
use Rattle.profile.specs.Profile.{usual_rounds, usual_rotation}
use Rattle.settings.specs.declared.Parameters.{Parameters}
use Rattle.settings.specs.declared.StoredParameters.{StoredParameters}

pub record Settings : Type 0 where
  -- T, R and C
  pub time : ℕ
  pub rows : ℕ
  pub columns : ℕ
  -- ρ, the rounds of a reduced call; ω, by how many words rot turns a cell; the addition of G
  pub rounds : ℕ
  pub rotation : ℕ
  pub addition : Addition

-- the settings of a call
abbrev pub settings : Parameters → Settings
settings p =
    record { time = p.time; rows = p.rows; columns = p.columns; rounds = p.rounds; rotation = p.rotation; addition = addition_of p.mixer }

-- T, R and C with the usual choice of the others
abbrev pub usual : StoredParameters → Parameters
usual p =
    record { time = p.time; rows = p.rows; columns = p.columns; rounds = usual_rounds; rotation = usual_rotation; mixer = Plain }
