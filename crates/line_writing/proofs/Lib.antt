-- The laws of writing a login line.
pub mod WriteLaws
