-- The laws of cells.
pub mod CellLaws
pub mod Apart
