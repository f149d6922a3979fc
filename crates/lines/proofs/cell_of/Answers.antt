-- `cell_of` meets its contract. Assumes nothing.
use Rattle.lines.proofs.Columns.{cell_sum}
use Rattle.lines.proofs.cell_of.Goals as goal

pub returns : goal.returns
returns c = rw (c.from.ensures, c.from-2.ensures) (cell_sum c.args.q c.above.result c.above.ensures.0)
