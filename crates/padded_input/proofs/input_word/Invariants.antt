-- v is the value of the bytes from i on.
use Rattle.little_endian.proofs.ByteLaws.{Loaded}
use Rattle.padded_input.specs.Padded.{padded}
use Rattle.padded_input.proofs.input_word.Given as goal

abbrev pub invariant-loop-i : goal.invariant-loop-i
invariant-loop-i l = Loaded 8 (padded l.password l.salt l.numbers) l.at l.i l.v
