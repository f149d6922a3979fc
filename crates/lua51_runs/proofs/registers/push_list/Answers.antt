-- `push_list` meets its contract: the head, then the registers. Assumes nothing.
use Rattle.ast.proofs.Written.{then}
use Rattle.lua51_runs.proofs.registers.push_list.Goals as goal

pub returns : goal.returns
returns c =
    rw (← c.saturating_sub.ensures)
    (then (rw (c.from-2.ensures, c.from.ensures, c.from-3.ensures) at c.push_all.ensures) (rw c.from-4.ensures at c.push_registers.ensures))
