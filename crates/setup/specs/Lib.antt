-- Setup.
pub mod Setup
pub mod Reach
