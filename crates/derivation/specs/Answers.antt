-- The answers: a result, or the number of a refusal with every other field zero.
use Rattle.std.specs.Prelude.{ℕ, Result, Ok, Err}
use Rattle.settings.specs.Settings.{Settings, settings}
use Rattle.settings.specs.declared.Parameters.{Parameters}
use Rattle.settings.specs.declared.Lengths.{Lengths}
use Rattle.refusals.specs.declared.Refusal.{Refusal}
use Rattle.refusals.specs.Refusals.{number_of}
use Rattle.derivation.specs.Cost.{full_cost, reduced_cost, rounds_cost}
use Rattle.derivation.specs.declared.Spent.{Spent}
pub use Rattle.refusals.specs.Checks.{flag}
unfoldable pub use Rattle.refusals.specs.Checks.{answered}

-- 0 or the number of a refusal, and what was spent
pub record Costs : Type 0 where
  pub refusal : ℕ
  pub full : ℕ
  pub reduced : ℕ
  pub rounds : ℕ

unfoldable pub spent_on : Settings → ℕ → ℕ → Costs
spent_on S full reduced = record { refusal = 0; full = full; reduced = reduced; rounds = rounds_cost S full reduced }

unfoldable pub no_costs : ℕ → Costs
no_costs number = record { refusal = number; full = 0; reduced = 0; rounds = 0 }

unfoldable pub costs : Lengths → Parameters → Costs
costs l p = spent_on (settings p) (full_cost l) (reduced_cost (settings p))

-- by the number of the first refusal
unfoldable pub cost_answer : ℕ → Lengths → Parameters → Costs
cost_answer number l p = answered number (costs l p) (no_costs number)

-- ---- the code's answers

-- of a call that is carried out
abbrev pub costs_of : Spent → Costs
costs_of s = record { refusal = 0; full = s.full; reduced = s.reduced; rounds = s.rounds }

abbrev pub costs_answer : Result Spent Refusal → Costs
costs_answer (Ok s) = costs_of s
costs_answer (Err r) = no_costs (number_of r)
