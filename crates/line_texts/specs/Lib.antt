-- The texts of a login line.
pub mod Texts
