-- Eight numbers are absorbed.
use Rattle.lanes_derivation.specs.LanesCosts.{lane_blocks}
use Rattle.lane_runs.proofs.absorb_lane.Goals as goal

pub returns : goal.returns
unfolding lane_blocks
returns c = c.absorb_padded.ensures
