-- Round by round, and quad by quad. Assumes nothing.
use Rattle.std.proofs.Common.{◌≡◌, ℕ, refl, sym, ap, ◌∙◌, subst, arith, add-one}
use Rattle.mixer.specs.Word.{plain_sum}
use Rattle.mixer.specs.G.{G}
use Rattle.permutation.specs.Round.{at_all, round, rounds, AllInside}
use Rattle.permutation.proofs.Along.{along_none, along_again, along_end, quads_inside}
use Rattle.permutation.proofs.plain_rounds.Goals as goal

pub loop-init : goal.loop-init
unfolding rounds
loop-init c = refl

pub loop-quad-init : goal.loop-quad-init
loop-quad-init c = along_none (G plain_sum)

pub apply_g-requires : goal.apply_g-requires
apply_g-requires c = subst AllInside (sym c.quads-quads.ensures) quads_inside c.loop-quad.quad-index (omega arith)

pub loop-quad-preserved : goal.loop-quad-preserved
loop-quad-preserved c = along_again (G plain_sum) c.loop-quad.invariant (omega arith) c.apply_g.ensures

pub loop-preserved : goal.loop-preserved
unfolding rounds round
loop-preserved c =
    rw add-one
    (along_end (G plain_sum) c.loop-quad.invariant (omega arith) ∙ ap (at_all (G plain_sum) _) c.quads-quads.ensures
    ∙ ap (round plain_sum) c.loop.invariant)

pub returns : goal.returns
returns c = let at_end : c.loop.counter ≡ c.args.n = omega arith in c.loop.invariant ∙ ap (λ (k : ℕ). rounds plain_sum k c.args.s.now) at_end
