-- What is refused leaves both outputs alone, and what is accepted puts both texts.
use Rattle.std.proofs.Common.{length, ◌∙◌}
use Rattle.refusals.proofs.Chained.{handed_is}
use Rattle.line_reading.proofs.ReadLaws.{form_number, said_number, read_refused, salt_fits, key_fits, read_given}
use Rattle.line_reading.proofs.read_line.Goals as goal

pub returns-in_err-texts : goal.returns-in_err-texts
returns-in_err-texts c =
    read_refused _ _ _ _ (handed_is _ _ c.from_residual.ensures)
    (form_number c.args.line.now (length c.args.salt.now) (length c.args.key.now) _ (c.in_err-texts.ensures.0, c.in_err-texts.ensures.1))

pub returns-in_err-check_said : goal.returns-in_err-check_said
returns-in_err-check_said c =
    read_refused _ _ _ _ (handed_is _ _ c.from_residual-in_err-check_said.ensures)
    (c.in_err-check_said.ensures ∙ said_number _ _ _ c.in_ok-texts.ensures.of_form (c.values_of-values.ensures.value _ c.in_ok-texts.ensures.marked))

pub put_decoded-requires : goal.put_decoded-requires
put_decoded-requires c =
    let q = c.in_ok-texts.ensures in salt_fits _ _ c.args.key.now q (c.values_of-values.ensures.value _ q.marked) c.in_ok-check_said.ensures

pub put_decoded-requires-2 : goal.put_decoded-requires-2
put_decoded-requires-2 c =
    let q = c.in_ok-texts.ensures in key_fits _ c.args.salt.now _ q (c.values_of-values.ensures.value _ q.marked) c.in_ok-check_said.ensures

pub returns : goal.returns
returns c =
    let q = c.in_ok-texts.ensures in
    read_given _ _ _ q (c.values_of-values.ensures.value _ q.marked) c.in_ok-check_said.ensures c.put_decoded.ensures c.put_decoded-2.ensures
