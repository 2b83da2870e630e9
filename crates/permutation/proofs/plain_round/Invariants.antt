-- G on the quads so far.
use Rattle.mixer.specs.Word.{plain_sum}
use Rattle.mixer.specs.G.{G}
use Rattle.permutation.proofs.Along.{Along}
use Rattle.permutation.proofs.plain_round.Given as goal

abbrev pub invariant-loop-quad : goal.invariant-loop-quad
invariant-loop-quad l = Along (G plain_sum) l.quad-items l.fn.s l.quad-index l.s
