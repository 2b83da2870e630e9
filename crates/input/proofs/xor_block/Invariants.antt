-- The first i words are in.
use Rattle.std.specs.Int.Bits.{bit_xor}
use Rattle.lists.proofs.Placed.{Placed}
use Rattle.input.specs.Input.{padded, block}
use Rattle.input.proofs.xor_block.Given as goal

abbrev pub invariant-loop-i : goal.invariant-loop-i
invariant-loop-i l = Placed bit_xor 0 l.fn.s (block (padded l.password l.salt l.numbers) l.b) l.s l.i 8
