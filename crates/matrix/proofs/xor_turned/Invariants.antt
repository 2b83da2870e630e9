-- The first j words are in place.
use Rattle.std.specs.Int.Bits.{bit_xor}
use Rattle.lists.proofs.Placed.{Placed}
use Rattle.matrix.specs.Cells.{rotated}
use Rattle.matrix.proofs.xor_turned.Given as goal

abbrev pub invariant-loop-j : goal.invariant-loop-j
invariant-loop-j l = Placed bit_xor l.a l.fn.m (rotated l.by l.words) l.m l.j 12
