use Rattle.std.proofs.Common.{rules, arith}
use Rattle.account_reader.proofs.StepLaws.{before_end, stands_behind}
use Rattle.book_search.proofs.Walks.{search_found, search_more, search_end}
use Rattle.book_search.proofs.place_of.Goals as goal

pub returns-then-account-number : goal.returns-then-account-number
returns-then-account-number c =
    let inv = c.loop-account.invariant in search_found inv.stands inv.searched c.in-Some.ensures.steps c.if-account-number.true

pub overflow_add-place : goal.overflow_add-place
overflow_add-place c = omega (arith, before_end c.loop-account.invariant.stands c.in-Some.ensures.steps)

pub loop-account-preserved : goal.loop-account-preserved
loop-account-preserved c =
    let inv = c.loop-account.invariant in
    let step = c.in-Some.ensures.steps in
    record {
      can = search rules;
      finite = search rules;
      stands = stands_behind inv.stands step;
      searched = search_more inv.stands inv.searched step c.if-account-number.false;
    }

pub returns : goal.returns
returns c = let inv = c.loop-account.invariant in search_end inv.stands inv.searched c.in-None.ensures.steps
