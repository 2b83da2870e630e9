-- The lent matrix as cells of twelve words.
pub mod Cells
