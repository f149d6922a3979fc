-- A number to 9,999,999, column by column.
use Rattle.std.specs.Prelude.{ℕ, ◌%◌, cond, ltb}
use Rattle.lines.specs.Line.{blank, digit}

-- the largest number that 7 columns hold
abbrev pub most_in_columns : ℕ
most_in_columns = 9999999

-- what stands in a column before the last, where q is the number down to this column: its last digit, and a blank for 0
unfoldable pub cell : ℕ → ℕ
cell q = cond (ltb 0 q) (digit (q % 10)) blank
