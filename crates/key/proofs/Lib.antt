-- The laws of the key and of its comparison, for the proofs of this crate and of the crates above it.
pub mod KeyLaws
pub mod Same
