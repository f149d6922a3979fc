-- `check::word_verdict`: what is found of the operands is the definition's. Assumes nothing.
use Rattle.lua51_lifter.specs.Check.{word_verdict}
use Rattle.std.proofs.Common.{rules}
use Rattle.lua51_checker.proofs.Judging.{outside_is}
use Rattle.lua51_checker.proofs.check.word_verdict.Goals as goal

pub returns-then-outside : goal.returns-then-outside
unfolding word_verdict
returns-then-outside c p s =
    let a = c.args in
    let outside = outside_is p a.subject.now a.i c.operand_fault-outside.ensures s c.decode-instruction.ensures in
    search rules

pub returns-then-not-lands : goal.returns-then-not-lands
unfolding word_verdict
returns-then-not-lands c p s =
    let a = c.args in
    let outside = outside_is p a.subject.now a.i c.operand_fault-outside.ensures s c.decode-instruction.ensures in
    search rules

pub returns-then-asks-opcode_of : goal.returns-then-asks-opcode_of
unfolding word_verdict
returns-then-asks-opcode_of c p s =
    let a = c.args in
    let outside = outside_is p a.subject.now a.i c.operand_fault-outside.ensures s c.decode-instruction.ensures in
    search rules

pub returns : goal.returns
unfolding word_verdict
returns c p s =
    let a = c.args in
    let outside = outside_is p a.subject.now a.i c.operand_fault-outside.ensures s c.decode-instruction.ensures in
    search rules
