-- Neither a password of no bytes nor the usual ρ is ever refused. Assumes nothing.
use Rattle.std.proofs.Common.{ap, ◌∙◌}
use Rattle.settings.specs.declared.Parameters.{Parameters}
use Rattle.refusals.specs.Checks.{first, cost_checks, stored_checks}
use Rattle.refusals.proofs.check_stored.Goals as goal

pub returns : goal.returns
unfolding first cost_checks stored_checks
returns c =
    let a = c.args in
    c.check_costs.ensures
    ∙ ap (λ (p : Parameters). first (cost_checks (record { key = a.key; password = 0; salt = a.salt }) p)) c.usual.ensures
