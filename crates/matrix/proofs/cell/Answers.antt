-- The part that it cuts out is the cell. Assumes nothing.
use Rattle.matrix.proofs.CellLaws.{cell_part}
use Rattle.matrix.proofs.cell.Goals as goal

pub returns-clause-result_value : goal.returns-clause-result_value
returns-clause-result_value c = cell_part _ _ _ c.cell_start-a.ensures
