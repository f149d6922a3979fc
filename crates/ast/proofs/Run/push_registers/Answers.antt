-- One turn writes the first of the registers that are left. Assumes nothing.
use Rattle.std.proofs.Common.{arith, rules}
use Rattle.ast.proofs.Registers.{registers_turn, registers_done}
use Rattle.ast.proofs.Written.{turned, done}
use Rattle.ast.proofs.Run.push_registers.Goals as goal

pub loop-register-preserved : goal.loop-register-preserved
loop-register-preserved c = turned c.loop-register.invariant c.push_all.ensures (registers_turn _ _ _ (omega arith))

pub returns : goal.returns
returns c =
    let all = done c.loop-register.invariant (registers_done _ _ (omega arith)) in
    search (rules, all.same, all.added)
