-- What a run of the sponge over the matrix leaves.
pub mod Runs
