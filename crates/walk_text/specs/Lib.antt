-- The walk program as a function of bytes.
pub mod Output
