-- The laws of numbers as bytes.
pub mod ByteLaws
