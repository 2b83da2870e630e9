-- The laws of the lanes.
pub mod Halves
pub mod InTurn
pub mod AnyOrder
pub mod TwoLanes
pub mod VisitsOrder
pub mod LaneSteps
