-- The key that a state gives.
pub mod KeyBytes
