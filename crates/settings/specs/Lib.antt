-- What a derivation goes by.
pub mod Settings
pub mod Sizes
