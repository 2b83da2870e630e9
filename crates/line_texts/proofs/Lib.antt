-- The laws of the texts of a line.
pub mod TextLaws
