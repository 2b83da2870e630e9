-- The laws of Setup.
pub mod SetupKeeps
pub mod SetupWithin
