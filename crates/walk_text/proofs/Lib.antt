-- The laws of the walk program's text.
pub mod Cases
