-- A derivation as a whole, its costs, and what the operations promise.
pub mod Derivation
pub mod Cost
pub mod Answers
pub mod Promises
