-- The walk question.
pub mod Question
