-- No account so far has a number of the block.
use Rattle.account_reader.proofs.StepLaws.{Stands}
use Rattle.account_numbers.proofs.Comparing.{Apart}
use Rattle.account_numbers.proofs.meets.Given as goal

abbrev pub invariant-loop-account : goal.invariant-loop-account
invariant-loop-account l = record {
  can : (goal.iterator-loop-account).can_next l.account-iterator;
  finite : (goal.iterator-loop-account).is_finite l.account-iterator;
  stands : Stands l.fn.reader.book.now l.account-iterator.at l.account-iterator;
  apart : Apart l.fn.reader.book.now l.fn.reader.at l.block l.account-iterator.at;
}
