-- The laws of packed words.
pub mod PackingLaws
