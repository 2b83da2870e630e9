-- The login line.
pub mod Line
pub mod Promises
