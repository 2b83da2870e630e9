-- The law behind a cleared state.
pub mod Zeros
