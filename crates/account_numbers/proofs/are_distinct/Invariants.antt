-- The numbers from the reader's place on decide.
use Rattle.std.proofs.Common.{◌≡◌, ◌-◌, length}
use Rattle.account_numbers.proofs.Comparing.{Distinct}
use Rattle.account_numbers.proofs.are_distinct.Given as goal

abbrev pub invariant-loop-reader : goal.invariant-loop-reader
invariant-loop-reader l = record {
  long : length l.block ≡ 128;
  same_book : l.reader.book.now ≡ l.book;
  distinct : Distinct l.book l.reader.at;
}

abbrev pub decreases-loop-reader : goal.decreases-loop-reader
decreases-loop-reader l = length l.book - l.reader.at
