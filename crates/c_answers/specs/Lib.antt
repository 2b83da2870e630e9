-- Answers whose fields a caller lends the places for.
pub mod Stored
