-- Quad by quad. Assumes nothing.
use Rattle.std.proofs.Common.{ap, ◌∙◌, sym, arith, subst}
use Rattle.mixer.specs.Word.{plain_sum}
use Rattle.mixer.specs.G.{G}
use Rattle.permutation.specs.Round.{at_all, round, AllInside}
use Rattle.permutation.proofs.Along.{along_none, along_again, along_end, quads_inside}
use Rattle.permutation.proofs.plain_round.Goals as goal

pub loop-quad-init : goal.loop-quad-init
loop-quad-init c = along_none (G plain_sum)

pub apply_g-requires : goal.apply_g-requires
apply_g-requires c = subst AllInside (sym c.quads.ensures) quads_inside c.loop-quad.quad-index (omega arith)

pub loop-quad-preserved : goal.loop-quad-preserved
loop-quad-preserved c = along_again (G plain_sum) c.loop-quad.invariant (omega arith) c.apply_g.ensures

pub returns : goal.returns
unfolding round
returns c = along_end (G plain_sum) c.loop-quad.invariant (omega arith) ∙ ap (at_all (G plain_sum) _) c.quads.ensures
