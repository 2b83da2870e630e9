-- What a login line is written from.
pub mod Values
