-- The visit record as it was before request 108, with a word for each number. Nothing writes it any more; packed records are compared with it.
use Rattle.std.specs.Prelude.{ℕ, List, [], ◌∷◌, ◌++◌}
use Rattle.settings.specs.Settings.{settings}
use Rattle.settings.specs.declared.Parameters.{Parameters}
use Rattle.columns.specs.declared.Picks.{Picks}
use Rattle.visits.specs.Visits.{Visit}
use Rattle.derivation.specs.Derivation.{end_visits}
use Rattle.end_states.specs.Trials.{Trial, input_of}

-- col0, col1 for each column
unfoldable pub unpacked_picks : List Picks → List ℕ
unpacked_picks [] = []
unpacked_picks (p ∷ ps) = p.col0.0 ∷ p.col1.0 ∷ unpacked_picks ps

-- row0, row1, then the columns
unfoldable pub unpacked_visit : Visit → List ℕ
unpacked_visit v = v.row0 ∷ v.row1 ∷ unpacked_picks v.columns

unfoldable pub unpacked : List Visit → List ℕ
unpacked [] = []
unpacked (v ∷ vs) = unpacked_visit v ++ unpacked vs

-- the visits of a trial, and what its used record would have been
abbrev pub visits_of : {p : Parameters} → Trial p → List Visit
visits_of {p} t = end_visits (settings p) (input_of t) t.matrix

abbrev pub unpacked_record : {p : Parameters} → Trial p → List ℕ
unpacked_record t = unpacked (visits_of t)
