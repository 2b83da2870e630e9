-- The laws of a reading.
pub mod ReadLaws
