-- What the recorded derivation answers.
pub mod Answers
