-- The laws of the padded input, for the proofs of this crate and of the crates above it.
pub mod Padded
