-- One half after the other. Assumes nothing.
use Rattle.std.proofs.Common.{ap, ◌∙◌}
use Rattle.mixer.specs.G.{G, half_g}
use Rattle.mixer.proofs.g.Goals as goal

pub returns : goal.returns
unfolding G
returns c = c.half_g-2.ensures ∙ ap (half_g _ 16 63) c.half_g.ensures
