-- The values, the output, the line.
use Rattle.std.proofs.Common.{[], ◌∷◌, sym, arith}
use Rattle.refusals.proofs.Accepted.{accepted}
use Rattle.refusals.proofs.Chained.{handed_is, number_above}
use Rattle.line_writing.specs.Values.{values}
use Rattle.line_writing.proofs.WriteLaws.{values_fit, values_number, room_number, write_refused, written}
use Rattle.line_writing.proofs.write_line.Goals as goal

pub returns-in_err-check_stored : goal.returns-in_err-check_stored
returns-in_err-check_stored c =
    let v = values c.args.p c.args.salt.now c.args.key.now in
    write_refused v c.args.line.now _ (handed_is _ _ c.from_residual.ensures) (values_number v c.args.line.now c.in_err-check_stored.ensures (number_above _))

pub line_length-length-requires : goal.line_length-length-requires
line_length-length-requires c = values_fit (values c.args.p c.args.salt.now c.args.key.now) c.in_ok-check_stored.ensures

pub returns-in_err-at_least : goal.returns-in_err-at_least
returns-in_err-at_least c =
    let v = values c.args.p c.args.salt.now c.args.key.now in
    write_refused v c.args.line.now _ (handed_is _ _ c.from_residual-in_err-at_least.ensures)
    (room_number v c.args.line.now c.in_ok-check_stored.ensures c.line_length-length.ensures c.in_err-at_least.ensures)

pub put_line-requires : goal.put_line-requires
put_line-requires c =
    let v = values c.args.p c.args.salt.now c.args.key.now in
    let room = accepted (_ ∷ []) (omega arith) (sym c.in_ok-at_least.ensures) in
    (values_fit v c.in_ok-check_stored.ensures, omega (arith, room, c.line_length-length.ensures))

pub returns : goal.returns
returns c =
    let v = values c.args.p c.args.salt.now c.args.key.now in
    written v c.args.line.now (room_number v c.args.line.now c.in_ok-check_stored.ensures c.line_length-length.ensures c.in_ok-at_least.ensures) c.put_line.ensures
