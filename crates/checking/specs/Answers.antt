-- The answer of a check: the costs as the cost question tells them, and 1 for yes. A refused check says no.
use Rattle.std.specs.Prelude.{ℕ, Result, Ok, Err}
use Rattle.refusals.specs.declared.Refusal.{Refusal}
use Rattle.refusals.specs.Refusals.{number_of}
use Rattle.derivation.specs.Answers.{Costs, costs_of, no_costs, flag}
use Rattle.checking.specs.declared.Checked.{Checked}

abbrev pub checked_costs : Result Checked Refusal → Costs
checked_costs (Ok c) = costs_of c.spent
checked_costs (Err r) = no_costs (number_of r)

abbrev pub checked_same : Result Checked Refusal → ℕ
checked_same (Ok c) = flag c.same
checked_same (Err r) = 0
