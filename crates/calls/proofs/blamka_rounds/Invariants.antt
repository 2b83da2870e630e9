-- The rounds so far.
use Rattle.std.proofs.Common.{◌≡◌}
use Rattle.mixer.specs.Mixers.{blamka_sum}
use Rattle.permutation.specs.Round.{rounds}
use Rattle.calls.proofs.blamka_rounds.Given as goal

abbrev pub invariant-loop : goal.invariant-loop
invariant-loop l = l.s ≡ rounds blamka_sum l.counter l.fn.s
