-- The laws of text in a buffer.
pub mod Appending
pub mod Standing
