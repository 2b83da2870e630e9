-- The order in which Setup revisits rows.
pub mod SetupOrder
