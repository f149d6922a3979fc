-- `push_open_call` meets its contract: the callee, then what it takes. Assumes nothing.
use Rattle.ast.proofs.Written.{then}
use Rattle.lua51_calls.proofs.results.push_open_call.Goals as goal

pub returns : goal.returns
returns c = then c.push_callee.ensures (rw c.from.ensures at c.push_below.ensures)
