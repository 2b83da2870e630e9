-- What the operations with several lanes promise: rounds, rotation and mixer are the usual ones.
use Rattle.std.specs.Prelude.{ℕ, List, length}
use Rattle.settings.specs.Settings.{settings, usual}
use Rattle.settings.specs.Sizes.{matrix_words}
use Rattle.settings.specs.declared.StoredParameters.{StoredParameters}
use Rattle.input.specs.Input.{Input, lengths}
use Rattle.refusals.specs.Checks.{first, lanes_checks}
use Rattle.derivation.specs.Promises.{DerivedAs, ComparedAs}
use Rattle.derivation.specs.Answers.{Costs}
use Rattle.lanes_derivation.specs.LanesCosts.{lanes_answer}
use Rattle.lanes_derivation.specs.LanesDerivation.{lanes_key_of}

-- the number of the first refusal, 0 where there is none
abbrev pub lanes_number : StoredParameters → ℕ → Input → List ℕ → ℕ
lanes_number p lanes x matrix = first (lanes_checks (lengths x) p lanes (length matrix))

-- the derivation
abbrev pub LanesDerived : StoredParameters → ℕ → Input → List ℕ → List ℕ → List ℕ → List ℕ → Costs → Type 0
LanesDerived p lanes x key matrix =
    DerivedAs (lanes_number p lanes x matrix) (lanes_answer (lanes_number p lanes x matrix) (lengths x) p lanes) (lanes_key_of (settings (usual p)) lanes x matrix)
    (matrix_words (settings (usual p))) key matrix

-- the check of a stored key
abbrev pub LanesCompared : StoredParameters → ℕ → Input → List ℕ → List ℕ → List ℕ → Costs → ℕ → Type 0
LanesCompared p lanes x stored matrix =
    ComparedAs (lanes_number p lanes x matrix) (lanes_answer (lanes_number p lanes x matrix) (lengths x) p lanes) (lanes_key_of (settings (usual p)) lanes x matrix)
    (matrix_words (settings (usual p))) stored matrix
