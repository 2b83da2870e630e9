-- The rounds so far, and of the next one G on the quads so far.
use Rattle.std.proofs.Common.{◌≡◌}
use Rattle.mixer.specs.Word.{plain_sum}
use Rattle.mixer.specs.G.{G}
use Rattle.permutation.specs.Round.{rounds}
use Rattle.permutation.proofs.Along.{Along}
use Rattle.permutation.proofs.plain_rounds.Given as goal

abbrev pub invariant-loop : goal.invariant-loop
invariant-loop l = l.t ≡ rounds plain_sum l.counter l.fn.s

abbrev pub invariant-loop-quad : goal.invariant-loop-quad
invariant-loop-quad l = Along (G plain_sum) l.quad-items l.initial.t l.quad-index l.t
