use Rattle.std.proofs.Common.{◌∙◌}
use Rattle.text.proofs.Standing.{standing}
use Rattle.text.proofs.stands_at.Goals as goal

pub returns : goal.returns
returns c = c.starts_with.ensures.value ∙ standing c.args.buffer.now c.args.at c.args.text.now
