-- `push_below` meets its contract: the count, then the registers. Assumes nothing.
use Rattle.ast.proofs.Written.{then}
use Rattle.lua51_calls.proofs.results.push_below.Goals as goal

pub returns : goal.returns
returns c = rw (← c.from.ensures, ← c.saturating_sub-count.ensures) (then (rw c.from-2.ensures at c.push.ensures) c.push_registers.ensures)
