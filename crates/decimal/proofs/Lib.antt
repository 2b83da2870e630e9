-- The laws of numbers in decimal digits.
pub mod Decimal
pub mod Inverse
