-- Statements about the whole base.
pub mod BenchCases
