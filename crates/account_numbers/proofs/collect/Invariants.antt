-- The block has the first numbers.
use Rattle.std.proofs.Common.{◌≡◌, length}
use Rattle.account_numbers.proofs.Comparing.{Collecting}
use Rattle.account_numbers.proofs.collect.Given as goal

abbrev pub invariant-loop-i : goal.invariant-loop-i
invariant-loop-i l = record {
  same_book : l.reader.book ≡ l.fn.reader.book;
  collecting : Collecting l.fn.reader.book.now l.fn.reader.at l.block (length l.fn.block) l.i l.reader.at;
}
