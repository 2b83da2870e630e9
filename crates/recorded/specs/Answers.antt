-- The answer of the recorded derivation: the costs as the cost question tells them, and the state after the last visit, zeros where a check
-- refused.
use Rattle.std.specs.Prelude.{ℕ, List, replicate, Result, Ok, Err}
use Rattle.profile.specs.Profile.{state_words}
use Rattle.refusals.specs.declared.Refusal.{Refusal}
use Rattle.refusals.specs.Refusals.{number_of}
use Rattle.derivation.specs.Answers.{Costs, costs_of, no_costs}
use Rattle.recorded.specs.declared.Recording.{Recording}

abbrev pub recorded_costs : Result Recording Refusal → Costs
recorded_costs (Ok r) = costs_of r.spent
recorded_costs (Err r) = no_costs (number_of r)

abbrev pub recorded_state : Result Recording Refusal → List ℕ
recorded_state (Ok r) = r.state
recorded_state (Err r) = replicate state_words 0
