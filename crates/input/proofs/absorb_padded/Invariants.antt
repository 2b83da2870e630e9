-- The first b blocks are absorbed, with a call each.
use Rattle.std.proofs.Common.{◌≡◌}
use Rattle.mixer.specs.Mixers.{sum_of}
use Rattle.input.specs.Input.{padded, absorb_blocks}
use Rattle.input.proofs.absorb_padded.Given as goal

abbrev pub invariant-loop-b : goal.invariant-loop-b
invariant-loop-b l =
    record { counted : l.calls ≡ l.b; absorbed : l.s ≡ absorb_blocks (sum_of l.mixer) l.b (padded l.password l.salt l.numbers) l.fn.s }
