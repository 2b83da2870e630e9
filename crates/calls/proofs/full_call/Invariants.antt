-- The rounds so far.
use Rattle.std.proofs.Common.{◌≡◌}
use Rattle.mixer.specs.Mixers.{sum_of}
use Rattle.permutation.specs.Round.{rounds}
use Rattle.calls.proofs.full_call.Given as goal

abbrev pub invariant-loop : goal.invariant-loop
invariant-loop l = l.state ≡ rounds (sum_of l.fn.mixer) l.counter l.fn.state
