-- `setup_step` meets its contract: the rows are those of the order. Assumes nothing.
use native.Mathlib.Omega.{arith}
use Rattle.setup_order.proofs.Windows.{row1_lt, prev1_lt}
use Rattle.setup.specs.Setup.{setup_step}
use Rattle.setup.proofs.SetupKeeps.{step_reaches}
use Rattle.setup.proofs.setup_step.Goals as goal

pub overflow_add-rows-3 : goal.overflow_add-rows-3
overflow_add-rows-3 c = rw c.requires.0 (omega (arith, c.requires.1.other_fits, row1_lt c.args.k))

pub overflow_add-rows-6 : goal.overflow_add-rows-6
overflow_add-rows-6 c = rw c.requires.0 (omega (arith, c.requires.1.other_fits, prev1_lt c.args.k))

pub setup_row-requires : goal.setup_row-requires
setup_row-requires c =
    let start = c in
    step_reaches _ _ _ _ _ start.requires.1 start.requires.0

pub returns : goal.returns
unfolding setup_step
returns c = rw (← c.requires.0) c.setup_row.ensures
