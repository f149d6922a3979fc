-- `push_counted` meets its contract: the count, then the registers. Assumes nothing.
use Rattle.ast.proofs.Written.{then}
use Rattle.ast.proofs.Registers.{count_registers_alone}
use Rattle.lua51_calls.proofs.results.push_counted.Goals as goal

pub returns : goal.returns
returns c =
    rw (count_registers_alone, ← c.saturating_sub-count.ensures)
    (then (rw c.from.ensures at c.push.ensures) c.push_registers.ensures)
