-- What a derivation with several lanes spends.
use Rattle.std.specs.Prelude.{ℕ, ◌+◌, ◌*◌}
use Rattle.settings.specs.Settings.{settings, usual}
use Rattle.settings.specs.declared.StoredParameters.{StoredParameters}
use Rattle.settings.specs.declared.Lengths.{Lengths}
use Rattle.input.specs.Input.{blocks}
use Rattle.key.specs.Key.{pieces}
use Rattle.derivation.specs.Cost.{reduced_cost}
use Rattle.derivation.specs.Answers.{Costs, answered, spent_on, no_costs}

-- the blocks of a lane's padded input, with its eight numbers
unfoldable pub lane_blocks : Lengths → ℕ
lane_blocks l = blocks l.password l.salt 8

-- the full calls of p lanes
abbrev pub lanes_full_cost : ℕ → Lengths → ℕ
lanes_full_cost p l = p * (lane_blocks l + pieces l.key)

unfoldable pub lanes_costs : Lengths → StoredParameters → ℕ → Costs
lanes_costs l p lanes = spent_on (settings (usual p)) (lanes_full_cost lanes l) (reduced_cost (settings (usual p)))

-- by the number of the first refusal
unfoldable pub lanes_answer : ℕ → Lengths → StoredParameters → ℕ → Costs
lanes_answer number l p lanes = answered number (lanes_costs l p lanes) (no_costs number)
