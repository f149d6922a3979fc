-- `set_register` meets its contract: the head of the assignment, then the value. Assumes nothing.
use Rattle.ast.proofs.Written.{then}
use Rattle.lua51_runs.proofs.registers.set_register.Goals as goal

pub returns : goal.returns
returns c = then c.push_all.ensures c.push_all-2.ensures
