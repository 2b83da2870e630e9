-- Several sponges over one matrix, each with rows of its own (request 111).
pub mod Lanes
pub mod Meetings
pub mod LaneSetup
pub mod LaneVisits
pub mod Room
pub mod Orders
pub mod LaneLists
