-- `comparison` meets its contract: the condition's head, then the operation. Assumes nothing.
use Rattle.ast.proofs.Written.{then}
use Rattle.lua51_operations.proofs.Conditions.{condition_numbers}
use Rattle.lua51_operations.proofs.tests.comparison.Goals as goal

pub returns : goal.returns
returns c = rw condition_numbers (then c.push_if.ensures c.push_binary.ensures)
