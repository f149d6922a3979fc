-- `put_columns` of a byte meets its contract: past the output's end it counts seven columns. Assumes nothing.
use native.Mathlib.Omega.{arith}
use Rattle.lines.specs.Line.{column}
use Rattle.lines.proofs.Decimal.{column_length}
use Rattle.lines.proofs.Puts.{puts_skipped}
use Rattle.std.proofs.Common.{rules}
use Rattle.lines.proofs.U8Columned.put_columns.Goals as goal

pub returns-then-has_ended : goal.returns-then-has_ended
returns-then-has_ended c =
    let x = c.args.b in
    puts_skipped (column x) c.skip.ensures (column_length x (omega arith)) (search rules)
