-- The lines of the Setup steps.
pub mod Lines
