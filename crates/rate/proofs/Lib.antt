-- The laws of the output, for the proofs of the crates above.
pub mod Words
