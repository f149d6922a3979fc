-- One turn writes the first of the registers that are left. Assumes nothing.
use Rattle.std.proofs.Common.{◌-◌, arith, rules}
use Rattle.basics.proofs.Range.{over_length}
use Rattle.ast.specs.Statement.{run}
use Rattle.ast.proofs.Written.{then, turned, done}
use Rattle.lua51_runs.proofs.Assigned.{range_turn, range_done}
use Rattle.lua51_runs.proofs.registers.close.Goals as goal

pub loop-register-preserved : goal.loop-register-preserved
loop-register-preserved c = turned c.loop-register.invariant (rw c.from-in-loop-register.ensures at c.push.ensures) (range_turn _ _ _ (omega arith))

pub returns : goal.returns
unfolding run
returns c =
    let a = c.args in
    let behind = done c.loop-register.invariant (range_done _ _ (omega arith)) in
    rw (over_length (λ r. r) a.first (a.stack - a.first))
    (then (rw (c.from.ensures, c.saturating_sub-count.ensures) at c.push_all.ensures) (search (rules, behind.same, behind.added)))
