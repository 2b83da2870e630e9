pub mod CellSum
