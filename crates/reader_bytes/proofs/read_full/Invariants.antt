-- The loop's invariant: what was read fits the buffer.
use Rattle.std.proofs.Common.{◌≤◌, length}
use Rattle.reader_bytes.proofs.read_full.Given as goal

abbrev pub invariant-loop : goal.invariant-loop
invariant-loop g l = l.at ≤ length l.bytes
