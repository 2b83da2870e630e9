-- The padded input.
pub mod Padded
