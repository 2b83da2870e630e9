-- The checks of a reading, as the code goes through them.
pub mod Checks
