-- The sponge over the permutation: absorbing and duplexing, with what the crates below it define.
pub mod Sponge
