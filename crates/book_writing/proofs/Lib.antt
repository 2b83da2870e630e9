-- The laws of the bytes that move.
pub mod Moving
