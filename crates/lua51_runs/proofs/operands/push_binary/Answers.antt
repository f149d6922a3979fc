-- `push_binary` meets its contract: the operator, then both operands. Assumes nothing.
use Rattle.ast.specs.Statement.{expr}
use Rattle.ast.proofs.Written.{then}
use Rattle.lua51_runs.proofs.operands.push_binary.Goals as goal

pub returns : goal.returns
unfolding expr
returns c = then c.push_all.ensures (then c.push_operand.ensures c.push_operand-2.ensures)
