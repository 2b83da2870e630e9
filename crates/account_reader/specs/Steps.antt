-- A reader's step over the account at its place.
use Rattle.std.specs.Prelude.{◌≡◌, ◌+◌, drop, Option}
use Rattle.accounts.specs.declared.Entry.{Entry}
use Rattle.accounts.specs.Accounts.{whole_entry, entry_of}
use Rattle.account_reader.specs.declared.Reader.{Reader}

-- the account is told, and the reader is behind it; where there is none, it stays
pub record Steps (before : Reader) (told : Option Entry) (after : Reader) : Type 0 where
  pub account : told ≡ whole_entry (drop before.at before.book.now)
  pub same_book : after.book ≡ before.book
  pub place : after.at ≡ before.at + (entry_of (drop before.at before.book.now)).size
