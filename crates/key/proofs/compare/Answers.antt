use Rattle.std.proofs.Common.{refl, arith}
use Rattle.key_bytes.proofs.KeyLaws.{length_key, squeezed_none, squeezed_more, squeezed_byte}
use Rattle.key.specs.Key.{pieces}
use Rattle.key.proofs.Same.{differing_none, differing_more_lem}
use Rattle.key.proofs.compare.Goals as goal

pub loop-i-init : goal.loop-i-init
loop-i-init c = record { differing = differing_none (length_key _ _ _); taken = squeezed_none _ }

pub overflow_add-calls : goal.overflow_add-calls
unfolding pieces
overflow_add-calls c = omega arith

pub loop-i-preserved : goal.loop-i-preserved
loop-i-preserved c =
    let next = c.next_byte-next.ensures in
    let inv = c.loop-i.invariant in
    record {
      differing = differing_more_lem inv.differing (omega arith) refl (squeezed_byte _ inv.taken next.0 _ _ (omega arith) next.1);
      taken = squeezed_more _ inv.taken next.0 _ next.2;
    }
