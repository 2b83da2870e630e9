-- The key of several lanes.
pub mod LaneKeys
pub mod Arrived
