-- The laws of base 64.
pub mod Groups
pub mod Elements
pub mod Texts
pub mod Inverse
pub mod Reading
pub mod Cases
