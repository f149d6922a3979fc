-- `truth` meets its contract: the condition's head, then the register. Assumes nothing.
use Rattle.ast.specs.Statement.{expr}
use Rattle.ast.proofs.Written.{then}
use Rattle.lua51_operations.proofs.Conditions.{condition_numbers}
use Rattle.lua51_operations.proofs.tests.truth.Goals as goal

pub returns : goal.returns
unfolding expr
returns c = rw condition_numbers (then c.push_if.ensures c.push_all.ensures)
