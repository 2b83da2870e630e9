-- The laws of the order in which Setup revisits rows.
pub mod Windows
