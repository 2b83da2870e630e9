-- A refusal, or the counts of the definition. Assumes nothing.
use Rattle.std.proofs.Common.{◌≡◌, ℕ, ◌+◌, ◌*◌, sym, ap, ap₂, ◌∙◌, arith}
use Rattle.settings.specs.Settings.{settings}
use Rattle.settings.specs.declared.Parameters.{Parameters}
use Rattle.key.specs.Key.{pieces}
use Rattle.refusals.proofs.Accepted.{cells_most}
use Rattle.refusals.proofs.Chained.{handed_is}
use Rattle.derivation.specs.Cost.{reduced_cost}
use Rattle.derivation.specs.Answers.{spent_on, costs_answer}
use Rattle.lanes_derivation.specs.LanesCosts.{lane_blocks}
use Rattle.lanes_deriving.proofs.LanesEnds.{costed, bounded, each_most, full_most, reduced_most, cost_refused, cost_yes}
use Rattle.lanes_deriving.proofs.cost_lanes.Goals as goal

pub returns-in_err-check_lanes : goal.returns-in_err-check_lanes
returns-in_err-check_lanes c = ap costs_answer (handed_is _ _ c.from_residual.ensures) ∙ cost_refused _ _ _ _ c.in_err-check_lanes.ensures

pub block_count-requires : goal.block_count-requires
block_count-requires c =
    let b = bounded _ _ _ (costed _ _ _ (sym c.in_ok-check_lanes.ensures)) in
    omega (arith, b.password, b.salt)

pub piece_count-requires : goal.piece_count-requires
piece_count-requires c = omega (arith, (bounded _ _ _ (costed _ _ _ (sym c.in_ok-check_lanes.ensures))).key_most)

pub overflow_add-each : goal.overflow_add-each
unfolding lane_blocks
overflow_add-each c =
    let b = bounded _ _ _ (costed _ _ _ (sym c.in_ok-check_lanes.ensures)) in
    omega (arith, c.piece_count.ensures, c.block_count.ensures, each_most _ 0 b.key_most b.password b.salt)

pub overflow_mul-q : goal.overflow_mul-q
overflow_mul-q c =
    let q = c.args.q in
    let b = bounded _ _ _ (costed _ _ _ (sym c.in_ok-check_lanes.ensures)) in
    omega (arith, cells_most q.rows q.columns b.rows_most b.columns_most)

pub reduced_calls-reduced-requires : goal.reduced_calls-reduced-requires
reduced_calls-reduced-requires c =
    let b = bounded _ _ _ (costed _ _ _ (sym c.in_ok-check_lanes.ensures)) in
    (b.time, omega (arith, reduced_most _ _ _ b.rows_most b.columns_most b.time))

pub overflow_mul-lanes : goal.overflow_mul-lanes
unfolding lane_blocks
overflow_mul-lanes c =
    let a = c.args in
    let b = bounded _ _ _ (costed _ _ _ (sym c.in_ok-check_lanes.ensures)) in
    let each : c.block_count.result + c.piece_count.result ≡ lane_blocks a.l + pieces a.l.key = ap₂ (λ (x y : ℕ). x + y) c.block_count.ensures c.piece_count.ensures in
    omega (arith, full_most _ _ b.key_most b.password b.salt b.lanes_most, ap (λ (n : ℕ). a.lanes * n) each)

pub spent-requires : goal.spent-requires
unfolding lane_blocks
spent-requires c =
    let a = c.args in
    let b = bounded _ _ _ (costed _ _ _ (sym c.in_ok-check_lanes.ensures)) in
    let each : c.block_count.result + c.piece_count.result ≡ lane_blocks a.l + pieces a.l.key = ap₂ (λ (x y : ℕ). x + y) c.block_count.ensures c.piece_count.ensures in
    let rounds : c.usual.result.rounds ≡ 1 = ap (λ (P : Parameters). P.rounds) c.usual.ensures in
    (omega (arith, full_most _ _ b.key_most b.password b.salt b.lanes_most, ap (λ (n : ℕ). a.lanes * n) each), omega (arith, c.reduced_calls-reduced.ensures, reduced_most _ _ _ b.rows_most b.columns_most b.time), omega (arith, rounds))

pub returns : goal.returns
unfolding lane_blocks
returns c =
    let a = c.args in
    let again : a.q.rows * a.q.columns * (a.q.time + 1) ≡ reduced_cost (settings c.usual.result) = ap (λ (P : Parameters). reduced_cost (settings P)) (sym c.usual.ensures) in
    let each : c.block_count.result + c.piece_count.result ≡ lane_blocks a.l + pieces a.l.key = ap₂ (λ (x y : ℕ). x + y) c.block_count.ensures c.piece_count.ensures in
    cost_yes _ _ _ (sym c.in_ok-check_lanes.ensures) c.usual.ensures (c.spent.ensures ∙ (λ i. spent_on (settings c.usual.result) (a.lanes * each i) ((c.reduced_calls-reduced.ensures ∙ again) i)))
