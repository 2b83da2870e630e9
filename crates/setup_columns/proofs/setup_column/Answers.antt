-- `setup_column` meets its contract: the duplex, then the writes. Assumes nothing.
use Rattle.columns.specs.Columns.{setup_column}
use Rattle.setup_columns.proofs.setup_column.Goals as goal

pub returns : goal.returns
unfolding setup_column
returns c r e = cc (c.write_setup.ensures r e, c.duplex_setup.ensures r e)
