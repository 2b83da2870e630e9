use Rattle.text.proofs.Appending.{◌then◌}
use Rattle.line_writing.proofs.append_number.Goals as goal

pub returns : goal.returns
returns c = c.append-from.ensures then c.append_decimal.ensures
