-- Four texts, one after another.
use Rattle.text.proofs.Appending.{◌then◌}
use Rattle.walk_lines.specs.Lines.{line}
use Rattle.walk_lines.proofs.append_line.Goals as goal

pub returns-clause-appended : goal.returns-clause-appended
unfolding line
returns-clause-appended c =
    c.append_short-first.ensures.appended then c.append-space.ensures then c.append_short-second.ensures.appended then c.append.ensures
