-- What is done over the lanes' states.
pub mod Over
