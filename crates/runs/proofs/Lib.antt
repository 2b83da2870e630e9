-- What follows a run.
pub mod Ends
