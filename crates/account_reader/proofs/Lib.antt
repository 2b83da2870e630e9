-- The laws of a reader's steps.
pub mod StepLaws
