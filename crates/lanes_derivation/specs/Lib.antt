-- A derivation with several lanes.
pub mod LanesDerivation
pub mod LanesCosts
pub mod LanesContracts
