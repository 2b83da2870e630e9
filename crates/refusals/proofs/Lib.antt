-- The laws of refusals.
pub mod Accepted
pub mod Answered
pub mod Chained
