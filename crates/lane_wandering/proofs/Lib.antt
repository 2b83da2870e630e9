-- The intervals of the visits.
pub mod Intervals
