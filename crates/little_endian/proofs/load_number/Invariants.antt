-- v is the value of the bytes from i on.
use Rattle.little_endian.proofs.ByteLaws.{Loaded}
use Rattle.little_endian.proofs.load_number.Given as goal

abbrev pub invariant-loop-i : goal.invariant-loop-i
invariant-loop-i l = Loaded l.n l.bytes l.at l.i l.v
