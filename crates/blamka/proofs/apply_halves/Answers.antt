-- Quad by quad. Assumes nothing.
use Rattle.std.proofs.Common.{arith}
use Rattle.permutation.proofs.Along.{along_none, along_again, along_end}
use Rattle.blamka.proofs.apply_halves.Goals as goal

pub loop-quad-init : goal.loop-quad-init
loop-quad-init c = along_none _

pub apply_half-requires : goal.apply_half-requires
apply_half-requires c = let h = c.requires.inside c.loop-quad.quad-index (omega arith) in omega arith

pub loop-quad-preserved : goal.loop-quad-preserved
loop-quad-preserved c = along_again _ c.loop-quad.invariant (omega arith) c.apply_half.ensures

pub returns : goal.returns
returns c = along_end _ c.loop-quad.invariant (omega arith)
