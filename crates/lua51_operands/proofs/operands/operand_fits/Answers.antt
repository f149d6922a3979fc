-- `operands::operand_fits`: each kind's test is the definition's. Assumes nothing.
use native.Mathlib.Omega.{arith}
use Rattle.lua51_lifter.specs.Check.{operand}
use Rattle.lua51_operands.proofs.Fitting.{run_fits}
use Rattle.lua51_operands.proofs.operands.operand_fits.Goals as goal

pub returns-in-Arguments : goal.returns-in-Arguments
unfolding operand
returns-in-Arguments c =
    let a = c.args in
    λ p i ws us s d. rw c.in-Arguments.is (cc (run_fits 1 a.fields.a a.x a.subject.now.head.stack (omega arith)))
