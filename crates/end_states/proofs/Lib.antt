-- What end states tell about the inputs, and that the key does not depend on what the matrix held.
pub mod Walks
pub mod EndStates
pub mod Demand3
pub mod SameRecords
pub mod Witness
