-- The book of accounts.
pub mod Accounts
pub mod Book
pub mod Promises
pub mod Shown
