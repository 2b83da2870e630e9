-- What a check answers.
pub mod Answers
