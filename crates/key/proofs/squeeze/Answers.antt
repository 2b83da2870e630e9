use Rattle.std.proofs.Common.{◌≡◌, ◌∙◌, length, arith}
use Rattle.lists.specs.Zip.{zip_at}
use Rattle.lists.proofs.ZipLaws.{put_all}
use Rattle.lists.proofs.Placed.{placed_none, placed_again, placed_end}
use Rattle.key_bytes.proofs.KeyLaws.{length_key, squeezed_none, squeezed_more, squeezed_end, squeezed_byte}
use Rattle.key.specs.Key.{pieces}
use Rattle.key.proofs.squeeze.Goals as goal

pub loop-i-init : goal.loop-i-init
loop-i-init c = record { placed = placed_none _ (length_key _ _ _); taken = squeezed_none _ }

pub overflow_add-calls : goal.overflow_add-calls
unfolding pieces
overflow_add-calls c = omega arith

pub loop-i-preserved : goal.loop-i-preserved
loop-i-preserved c =
    let next = c.next_byte-next.ensures in
    let inv = c.loop-i.invariant in
    record {
      placed = placed_again _ inv.placed (omega arith) (omega arith) (squeezed_byte _ inv.taken next.0 _ _ (omega arith) next.1);
      taken = squeezed_more _ inv.taken next.0 _ next.2;
    }

pub returns : goal.returns
unfolding zip_at
returns c =
    let inv = c.loop-i.invariant in
    let all : c.loop-i.i ≡ length c.args.key.now = omega arith in
    let end = squeezed_end _ inv.taken all in
    (placed_end _ inv.placed (omega arith) ∙ put_all _ _ (length_key _ _ _), end.0, end.1)
