-- `put_columns` of a number of any size meets its contract: one above 9,999,999 has no blanks; past the output's end it counts
-- seven columns. Assumes nothing.
use Rattle.lines.specs.Line.{column}
use Rattle.lines.proofs.Decimal.{column_length, column_large}
use Rattle.lines.proofs.Puts.{puts_skipped}
use Rattle.std.proofs.Common.{rules}
use Rattle.lines.proofs.UsizeColumned.put_columns.Goals as goal

pub returns-then-n-gt-MOST_IN_COLUMNS : goal.returns-then-n-gt-MOST_IN_COLUMNS
returns-then-n-gt-MOST_IN_COLUMNS c =
    rw (column_large c.args.n c.if-n-gt-MOST_IN_COLUMNS.true (search rules)) (search (rules, c.put_large-out.ensures))

pub returns-then-has_ended : goal.returns-then-has_ended
returns-then-has_ended c =
    let x = c.args.n in
    let seven = column_length x c.if-n-gt-MOST_IN_COLUMNS.false in
    puts_skipped (column x) c.skip.ensures seven (search rules)
