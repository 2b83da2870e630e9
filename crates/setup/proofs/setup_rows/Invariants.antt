-- Where the work before the loop is that of the first row, the work is that of d rows, and the order is that of the next one.
use Rattle.std.proofs.Common.{◌≡◌, ℕ, ◌+◌, ◌*◌, length}
use Rattle.lists.specs.Loop.{loop}
use Rattle.settings.specs.Settings.{settings}
use Rattle.columns.specs.Columns.{Work, work}
use Rattle.setup_order.specs.SetupOrder.{order}
use Rattle.setup.specs.Setup.{setup_step}
use Rattle.setup.proofs.setup_rows.Given as goal

abbrev pub invariant-loop-d : goal.invariant-loop-d
invariant-loop-d l =
    let f : ℕ → Work → Work = λ i. setup_step (settings l.p) l.own l.other (l.k + i) in
    (l.next ≡ order (l.k + l.d)) × (l.calls ≡ l.d * l.p.columns) × (length l.m ≡ length l.initial.m)
    × ((w : Work) → work l.initial.s l.initial.m ≡ loop f 1 w → work l.s l.m ≡ loop f l.d w)
