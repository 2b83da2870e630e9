-- The laws of the numbers of accounts.
pub mod Comparing
