-- All before the end so far are whole accounts.
use Rattle.accounts.proofs.Walking.{Counted}
use Rattle.account_reader.proofs.StepLaws.{Stands}
use Rattle.book_search.proofs.is_run.Given as goal

abbrev pub invariant-loop-account : goal.invariant-loop-account
invariant-loop-account l = record {
  can : (goal.iterator-loop-account).can_next l.account-iterator;
  finite : (goal.iterator-loop-account).is_finite l.account-iterator;
  stands : Stands l.book l.end l.account-iterator;
  counted : Counted l.book l.end;
}
