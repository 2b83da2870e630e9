-- A run of several lanes.
pub mod LaneRuns
