-- A refusal, or the costs: the two counts stay far below a word. Assumes nothing.
use Rattle.std.proofs.Common.{◌≡◌, sym, ap, ap₂, ◌∙◌, arith}
use Rattle.settings.specs.Settings.{settings}
use Rattle.settings.specs.declared.Parameters.{Parameters}
use Rattle.settings.specs.declared.Lengths.{Lengths}
use Rattle.refusals.specs.Checks.{Accepted, first, cost_checks}
use Rattle.refusals.proofs.Accepted.{accepted, cells_most}
use Rattle.refusals.proofs.Chained.{handed_is}
use Rattle.derivation.specs.Answers.{spent_on, costs, costs_answer}
use Rattle.derivation.proofs.Answering.{cost_refused, cost_yes, full_most, reduced_most}
use Rattle.costs.proofs.cost.Goals as goal

module _ (l : Lengths) (p : Parameters) (e : 0 ≡ first (cost_checks l p)) where
  checked : Accepted (cost_checks l p)
  unfolding cost_checks
  checked = accepted (cost_checks l p) (omega arith) (sym e)

pub returns-in_err-check_costs : goal.returns-in_err-check_costs
returns-in_err-check_costs c = ap costs_answer (handed_is _ _ c.from_residual.ensures) ∙ cost_refused _ _ _ c.in_err-check_costs.ensures

pub full_calls-full-requires : goal.full_calls-full-requires
unfolding cost_checks
full_calls-full-requires c = let h = checked c.args.l c.args.p c.in_ok-check_costs.ensures in omega (arith, h)

pub overflow_mul-p : goal.overflow_mul-p
unfolding cost_checks
overflow_mul-p c =
    let p = c.args.p in
    let h = checked c.args.l p c.in_ok-check_costs.ensures in
    omega (arith, cells_most p.rows p.columns (omega arith) (omega arith))

pub reduced_calls-reduced-requires : goal.reduced_calls-reduced-requires
unfolding cost_checks
reduced_calls-reduced-requires c =
    let h = checked c.args.l c.args.p c.in_ok-check_costs.ensures in
    (omega arith, omega (arith, reduced_most c.args.l c.args.p h))

pub spent-requires : goal.spent-requires
unfolding cost_checks
spent-requires c =
    let a = c.args in
    let h = checked a.l a.p c.in_ok-check_costs.ensures in
    omega (arith, full_most a.l (omega arith), reduced_most a.l a.p h, c.full_calls-full.ensures, c.reduced_calls-reduced.ensures)

pub returns : goal.returns
unfolding costs
returns c =
    let calls = ap₂ (spent_on (settings c.args.p)) c.full_calls-full.ensures c.reduced_calls-reduced.ensures in
    cost_yes _ _ (sym c.in_ok-check_costs.ensures) (c.spent.ensures ∙ calls)
