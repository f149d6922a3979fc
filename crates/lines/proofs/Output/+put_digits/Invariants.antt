-- `put_digits`, which calls itself, meets its contract: the digits of n / 10, then the last. The measure is n. Assumes nothing.
use Rattle.lines.proofs.Output.+put_digits.Given as goal

abbrev pub decreases-put_digits : goal.decreases-put_digits
decreases-put_digits l = l.n
