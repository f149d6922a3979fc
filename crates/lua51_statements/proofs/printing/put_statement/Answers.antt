-- `put_statement` meets its contract: letter, index, opcode, numbers, end. Assumes nothing.
use mathlib.Core.List.{◌∷◌}
use Rattle.lines.proofs.Puts.{line_puts, puts_first}
use Rattle.lua51_statements.proofs.printing.put_statement.Goals as goal

pub returns : goal.returns
returns c =
    let a = c.args in
    line_puts (a.i ∷ a.opcode ∷ a.run.now) c.put_byte.ensures
    (puts_first _ _ c.put_number.ensures (puts_first _ _ c.put_number-2.ensures c.put_numbers.ensures)) c.put_end.ensures
