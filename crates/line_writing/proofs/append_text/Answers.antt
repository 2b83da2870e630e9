use Rattle.text.proofs.Appending.{◌then◌}
use Rattle.line_writing.proofs.append_text.Goals as goal

pub returns : goal.returns
returns c = c.append-from.ensures then c.append_encoded.ensures
