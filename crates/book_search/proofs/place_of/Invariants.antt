-- The account is not before the place so far.
use Rattle.accounts.proofs.Walking.{Searched}
use Rattle.account_reader.proofs.StepLaws.{Stands}
use Rattle.book_search.proofs.place_of.Given as goal

abbrev pub invariant-loop-account : goal.invariant-loop-account
invariant-loop-account l = record {
  can : (goal.iterator-loop-account).can_next l.account-iterator;
  finite : (goal.iterator-loop-account).is_finite l.account-iterator;
  stands : Stands l.book l.place l.account-iterator;
  searched : Searched l.number l.book l.place;
}
