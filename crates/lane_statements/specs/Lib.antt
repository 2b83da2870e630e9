-- A derivation with several lanes in other orders.
pub mod LanesOrders
