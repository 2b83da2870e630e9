-- The eight lanes that there is room for, of which the first are the lanes of the call, and zeros in their states at the end.
use Rattle.std.proofs.Common.{sym}
use Rattle.lanes.specs.declared.Lane.{Lane}
use Rattle.lanes_deriving.proofs.LanesEnds.{lanes_few, begun_states, begun_length, begins, counts_again}
use Rattle.lanes_deriving.proofs.take_accepted.Goals as goal

pub slice_bounds-all-end : goal.slice_bounds-all-end
slice_bounds-all-end c = lanes_few _ _ _ _ c.requires

pub slice_bounds-take_over-end : goal.slice_bounds-take_over-end
slice_bounds-take_over-end c = sym (begun_length c.args.lanes _ (lanes_few _ _ _ _ c.requires))

pub take_over-done-requires : goal.take_over-done-requires
take_over-done-requires c =
    let few = lanes_few _ _ _ _ c.requires in
    let x : Lane = record { state = c.start.result; prev = 0 } in
    rw (begun_length c.args.lanes x few) (begins _ c.args.q _ _ c.requires c.usual-p.ensures (begun_states c.args.lanes x c.start.ensures few))

pub returns : goal.returns
returns c =
    let x : Lane = record { state = c.start.result; prev = 0 } in
    let over = rw (begun_length c.args.lanes x (lanes_few _ _ _ _ c.requires), c.usual-p.ensures) at c.take_over-done.ensures in
    record {
      answer = counts_again c.take_over-done.result.spent over.answer c.clear_states.ensures.0;
      key_is = over.key_is;
      same_is = over.same_is;
      matrix_is = over.matrix_is;
    }
