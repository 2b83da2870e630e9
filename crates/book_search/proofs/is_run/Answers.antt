use Rattle.std.proofs.Common.{rules, arith}
use Rattle.account_reader.proofs.StepLaws.{before_end, stands_behind}
use Rattle.book_search.proofs.Walks.{run_more, run_end}
use Rattle.book_search.proofs.is_run.Goals as goal

pub overflow_add-end : goal.overflow_add-end
overflow_add-end c = omega (arith, before_end c.loop-account.invariant.stands c.in-Some.ensures.steps)

pub loop-account-preserved : goal.loop-account-preserved
loop-account-preserved c =
    let inv = c.loop-account.invariant in
    let step = c.in-Some.ensures.steps in
    record { can = search rules; finite = search rules; stands = stands_behind inv.stands step; counted = run_more inv.stands inv.counted step }

pub returns : goal.returns
returns c = let inv = c.loop-account.invariant in run_end inv.stands inv.counted c.in-None.ensures.steps
