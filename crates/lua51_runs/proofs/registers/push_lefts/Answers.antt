-- `push_lefts` meets its contract: head, then registers. Assumes nothing.
use Rattle.ast.proofs.Written.{then}
use Rattle.lua51_runs.proofs.registers.push_lefts.Goals as goal

pub returns : goal.returns
returns c = then (rw c.from.ensures at c.push_all.ensures) c.push_registers.ensures
