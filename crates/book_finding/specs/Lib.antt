-- The used part of a slice, as the code asks for it.
pub mod Used
