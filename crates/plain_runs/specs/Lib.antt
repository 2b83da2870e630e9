-- What a derivation that keeps its key alone leaves.
pub mod PlainRuns
