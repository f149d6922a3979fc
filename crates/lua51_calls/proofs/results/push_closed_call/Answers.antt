-- `push_closed_call` meets its contract: the callee, then what it takes. Assumes nothing.
use Rattle.ast.specs.Statement.{expr}
use Rattle.ast.proofs.Written.{then}
use Rattle.lua51_calls.proofs.results.push_closed_call.Goals as goal

pub returns : goal.returns
unfolding expr
returns c = then c.push_callee.ensures (rw c.from.ensures at c.push_counted.ensures)
