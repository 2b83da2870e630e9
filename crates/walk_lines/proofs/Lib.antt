-- The laws of the lines of the Setup steps.
pub mod LineLaws
