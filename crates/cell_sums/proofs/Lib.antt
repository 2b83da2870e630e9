-- The laws of sums of cells.
pub mod Sums
