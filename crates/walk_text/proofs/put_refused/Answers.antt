-- Three texts, one after another.
use Rattle.std.proofs.Common.{ap}
use Rattle.text.proofs.Appending.{◌then◌, reworded}
use Rattle.decimal.specs.Decimal.{decimal}
use Rattle.walk_text.specs.Output.{refused_line}
use Rattle.walk_text.proofs.put_refused.Goals as goal

pub returns : goal.returns
unfolding refused_line
returns c =
    c.append-word.ensures then reworded c.append_short-end.ensures.appended (ap decimal c.from-number.ensures) then c.append.ensures
