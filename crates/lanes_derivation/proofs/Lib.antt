-- The laws of a derivation with several lanes.
pub mod LanesCounted
pub mod Evenly
pub mod LanesWithin
