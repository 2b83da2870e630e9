-- Statements about the whole base, and their proofs.
pub mod Cases
pub mod BlaMkaCases
pub mod RecordCases
pub mod Independence
pub mod SameKey
pub mod NothingLeft
pub mod SetupAlone
pub mod ChoiceCases
