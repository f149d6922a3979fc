-- `variable_arguments` meets its contract. Assumes nothing.
use Rattle.ast.specs.Statement.{expr}
use Rattle.ast.proofs.Written.{then}
use Rattle.lua51_runs.proofs.Assigned.{assign_numbers}
use Rattle.lua51_calls.proofs.calls.variable_arguments.Goals as goal

pub returns : goal.returns
unfolding expr
returns c = rw (assign_numbers, ← c.saturating_sub.ensures) (then (rw c.from.ensures at c.push_lefts.ensures) c.push_all.ensures)
