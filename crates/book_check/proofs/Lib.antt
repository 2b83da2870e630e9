-- The laws of checking a password against an account.
pub mod Checks
