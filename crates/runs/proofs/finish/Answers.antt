-- `finish` meets its contract: the first cell of the last row. Assumes nothing.
use mathlib.Core.Path.{refl}
use native.Mathlib.Omega.{arith}
use Rattle.columns.proofs.RowLaws.{row_before}
use Rattle.derivation.specs.Derivation.{final_state}
use Rattle.runs.proofs.finish.Goals as goal

pub absorb_last-requires : goal.absorb_last-requires
absorb_last-requires c =
    let a = c.args in
    let h = c.requires in
    (h.0, omega (arith, h.3, row_before a.ran.row0.0 a.p.rows a.p.columns h.1))

pub returns : goal.returns
unfolding final_state
returns c = (refl, c.absorb_last.ensures)
