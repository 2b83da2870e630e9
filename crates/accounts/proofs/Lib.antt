-- The laws of accounts and of the book.
pub mod Decoding
pub mod Walking
pub mod Inverse
pub mod Changing
pub mod Refusing
pub mod Rewriting
pub mod Independence
pub mod Theorems
pub mod Cases
