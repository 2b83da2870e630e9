-- The steps of a reader.
pub mod Steps
