-- One column of a lane's visit.
pub mod LaneColumns
