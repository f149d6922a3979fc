-- `generic_loop` meets its contract: first the call, then the test. Assumes nothing.
use Rattle.std.proofs.Common.{arith, eq-eqb, ne_eqb}
use Rattle.ast.specs.Statement.{run, expr}
use Rattle.ast.proofs.Written.{then}
use Rattle.lua51_runs.proofs.Assigned.{assign_numbers}
use Rattle.lua51_calls.proofs.calls.generic_loop.Goals as goal

pub returns-then-k-gt0 : goal.returns-then-k-gt0
unfolding run expr
returns-then-k-gt0 c =
    rw (ne_eqb c.args.k 0 (λ z. omega (arith, c.if-k-gt0.true))) (rw (c.from.ensures, c.from-variable.ensures) at c.push_all.ensures)

pub returns : goal.returns
returns c =
    rw (eq-eqb c.args.k 0 (omega (arith, c.if-k-gt0.false)), assign_numbers)
    (then (rw c.from-variable.ensures at c.push_lefts.ensures) c.push_closed_call.ensures)
