-- What the words of the output pick.
pub mod Words
