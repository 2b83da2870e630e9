-- Wandering, and the record of its visits.
pub mod Visits
pub mod Encoding
pub mod Wandered
