-- Three numbers and two texts, one after another.
use Rattle.std.proofs.Common.{arith}
use Rattle.base64_encoding.proofs.Elements.{length-encode}
use Rattle.text.proofs.Appending.{◌then◌, reworded}
use Rattle.line_form.specs.Line.{length_by}
use Rattle.line_writing.specs.Values.{values}
use Rattle.line_writing.proofs.WriteLaws.{regrouped}
use Rattle.line_writing.proofs.put_line.Goals as goal

pub append_text-requires : goal.append_text-requires
unfolding length_by
append_text-requires c = let size = length-encode c.args.salt.now in omega arith

pub returns : goal.returns
returns c =
    reworded
    (c.append_number-time.ensures then c.append_number-rows.ensures then c.append_number-columns.ensures then c.append_text-end.ensures
    then c.append_text.ensures)
    (regrouped (values c.args.p c.args.salt.now c.args.key.now))
