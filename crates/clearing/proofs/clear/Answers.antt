use Rattle.std.proofs.Common.{arith, sym, ◌∙◌}
use lib.ListN.{length-replicate, get_or-replicate}
use Rattle.lists.specs.Zip.{zip_at, cleared}
use Rattle.lists.proofs.Placed.{placed_none, placed_again, placed_end}
use Rattle.clearing.proofs.clear.Goals as goal

pub loop-j-init : goal.loop-j-init
loop-j-init c = placed_none _ (length-replicate _ 0)

pub loop-j-preserved : goal.loop-j-preserved
loop-j-preserved c =
    placed_again _ c.loop-j.invariant (omega arith) (omega arith) (c.requires.1 ∙ sym (get_or-replicate c.args.n c.loop-j.j 0 0 (omega arith)))

pub returns : goal.returns
unfolding zip_at cleared
returns c = placed_end _ c.loop-j.invariant (omega arith)
