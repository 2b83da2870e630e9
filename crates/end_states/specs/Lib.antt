-- What end states are, the trials that are compared by them, and the record of before.
pub mod EndStates
pub mod Trials
pub mod Unpacked
