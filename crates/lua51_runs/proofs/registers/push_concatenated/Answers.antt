-- One turn writes the first of the registers that are left; after the last turn, one is left. Assumes nothing.
use Rattle.std.proofs.Common.{arith, rules}
use Rattle.ast.proofs.Written.{turned, last}
use Rattle.lua51_runs.proofs.Assigned.{concatenated_turn, concatenated_done}
use Rattle.lua51_runs.proofs.registers.push_concatenated.Goals as goal

pub loop-register-preserved : goal.loop-register-preserved
loop-register-preserved c = turned c.loop-register.invariant c.push_all.ensures (concatenated_turn _ _ _ (omega arith))

pub returns : goal.returns
returns c =
    let all = last c.loop-register.invariant c.push_all-2.ensures (concatenated_done _ _ _ (omega arith) (omega arith)) in
    search (rules, all.same, all.added)
