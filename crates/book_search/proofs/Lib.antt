-- A loop over a reader's accounts.
pub mod Walks
