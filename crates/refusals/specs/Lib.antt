-- When a call is turned down.
pub mod Checks
pub mod Refusals
