-- What checking a password against an account promises.
pub mod Promises
