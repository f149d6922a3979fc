-- `put_digits`, which calls itself, meets its contract: the digits of n / 10, then the last. The measure is n. Assumes nothing.
use mathlib.Core.Path.{sym}
use Rattle.lines.proofs.Decimal.{decimal_few, decimal_more}
use Rattle.lines.proofs.Puts.{puts_then, puts_equal}
use Rattle.std.proofs.Common.{rules}
use Rattle.lines.proofs.Output.+put_digits.Goals as goal

pub returns-then-n-lt-BASE : goal.returns-then-n-lt-BASE
returns-then-n-lt-BASE t c = rw (decimal_few c.args.n (search rules)) c.put_byte.ensures

pub returns : goal.returns
returns t c = puts_equal (sym (decimal_more c.args.n (search rules) (search rules))) (puts_then c.put_digits.ensures c.put_byte-2.ensures)
