-- `get_table` meets its contract. Assumes nothing.
use Rattle.ast.specs.Statement.{expr}
use Rattle.ast.proofs.Written.{then}
use Rattle.lua51_runs.proofs.Assigned.{set_numbers}
use Rattle.lua51_assignments.proofs.get_table.Goals as goal

pub returns : goal.returns
unfolding expr
returns c = rw set_numbers (then (rw (c.from.ensures, c.from-2.ensures) at c.set_register.ensures) c.push_operand.ensures)
