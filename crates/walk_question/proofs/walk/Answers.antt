-- A refusal, or the row: the bounds that the checks leave are those that the steps need. Assumes nothing.
use Rattle.std.proofs.Common.{sym, ap, ◌∙◌, arith}
use Rattle.setup_order.specs.SetupOrder.{row1_of}
use Rattle.refusals.specs.Checks.{answered, walk_checks}
use Rattle.refusals.proofs.Accepted.{accepted}
use Rattle.refusals.proofs.Answered.{answered-yes}
use Rattle.refusals.proofs.Chained.{handed_is, answered_refused}
use Rattle.walk_question.specs.Question.{walk_answer, walked_answer}
use Rattle.walk_question.proofs.walk.Goals as goal

pub returns-in_err-check_walk : goal.returns-in_err-check_walk
unfolding walk_answer answered
returns-in_err-check_walk c =
    let e = c.in_err-check_walk.ensures in
    ap walked_answer (handed_is _ _ c.from_residual.ensures) ∙ (λ i. record { refusal = e i; row1 = answered_refused _ e (row1_of c.args.row0) 0 i })

pub row1_of-requires : goal.row1_of-requires
unfolding walk_checks
row1_of-requires c = omega (arith, accepted (walk_checks c.args.rows c.args.row0) (omega arith) (sym c.in_ok-check_walk.ensures))

pub returns : goal.returns
unfolding walk_answer answered
returns c =
    let e = c.in_ok-check_walk.ensures in
    λ i. record { refusal = e i; row1 = answered-yes (row1_of c.args.row0) 0 (sym e) c.row1_of.ensures i }
