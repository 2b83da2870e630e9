-- What the ends of a run of several lanes give.
pub mod LanesEnds
