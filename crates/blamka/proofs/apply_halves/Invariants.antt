-- The half on the quads so far.
use Rattle.mixer.specs.Mixers.{blamka_sum}
use Rattle.mixer.specs.G.{half_g}
use Rattle.permutation.proofs.Along.{Along}
use Rattle.blamka.proofs.apply_halves.Given as goal

abbrev pub invariant-loop-quad : goal.invariant-loop-quad
invariant-loop-quad l = Along (half_g blamka_sum l.m l.n) l.quads l.fn.s l.quad-index l.s
