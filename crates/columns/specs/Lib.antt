-- What Setup and Wandering do in one column.
pub mod Columns
pub mod Bounds
