-- The laws of the sponge, for the proofs of this crate and of the crates above it.
pub mod Output
pub mod Absorbing
