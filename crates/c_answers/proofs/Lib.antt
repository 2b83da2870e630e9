-- The laws of what is stored.
pub mod Given
