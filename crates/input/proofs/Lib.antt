-- The laws of a derivation's input and of its absorption, for the proofs of this crate and of the crates above it.
pub mod InputLaws
