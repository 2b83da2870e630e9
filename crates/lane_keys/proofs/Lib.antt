-- The laws of the key of several lanes.
pub mod LaneBytes
