-- The laws of the letters of base 64, and of the sums that find them.
pub mod Table
pub mod LetterLaws
pub mod Sums
