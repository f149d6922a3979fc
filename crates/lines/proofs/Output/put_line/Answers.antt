-- `put_line` meets its contract: letter, numbers, end. Assumes nothing.
use Rattle.lines.proofs.Puts.{line_puts, puts_equal, by_values}
use mathlib.Core.Path.{sym}
use mathlib.Core.List.{map}
use Rattle.lines.proofs.Output.put_line.Goals as goal

pub returns : goal.returns
returns g c =
    let value = g.T.Columned.value in
    let numbers = c.args.numbers.now in
    line_puts (map value numbers) c.put_byte.ensures (puts_equal (sym (by_values value numbers)) c.put_numbers.ensures) c.put_end.ensures
