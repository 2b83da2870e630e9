-- The laws of the permutation, for the proofs of this crate and of the crates above it.
pub mod State
pub mod Quads
pub mod Undo
pub mod Along
