-- The intervals of Setup.
pub mod Intervals
