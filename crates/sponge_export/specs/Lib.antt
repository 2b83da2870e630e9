-- The four words of G as a list.
pub mod Four
