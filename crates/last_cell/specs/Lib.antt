-- The last cell of a derivation.
pub mod LastCell
