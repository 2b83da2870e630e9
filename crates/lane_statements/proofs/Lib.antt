-- The theorems about several lanes.
pub mod KeysOrder
pub mod LanesAnyOrder
pub mod LanesIndependence
pub mod OtherOrders
