-- `statement` meets its contract: the opcodes in four groups. Assumes nothing.
use Prim.Native.Nat.{◌<◌}
use mathlib.Core.Path.{◌≡◌}
use native.Mathlib.Omega.{arith}
use Rattle.lua51_instruction.specs.Word.{op_of}
use Rattle.lua51_instruction.specs.Proto.{word}
use Rattle.lua51_instruction.specs.Instruction.{FieldsOf}
use Rattle.lua51_lifter.specs.Lift.{statements_by}
use Rattle.lua51_statements.proofs.Counts.{at_most_one}
use Rattle.lua51_statements.proofs.statement.statement.Goals as goal

pub returns-then-opcode-le-CONCAT : goal.returns-then-opcode-le-CONCAT
returns-then-opcode-le-CONCAT c p words nested nups stack h =
    let i = c.args.i in
    let d : FieldsOf (word p i) c.fields_of-w.result = rw (words, ← c.at_or.ensures) c.fields_of-w.ensures in
    let below = rw (← d.opcode) at h in
    let o = c.fields_of-w.result.opcode in
    let past = c.if-opcode-le-SELF.false in
    let upto = c.if-opcode-le-CONCAT.true in
    let first : c.args.k ≡ 0 = omega (arith, below, at_most_one p i o past (omega (arith, upto))) in
    rw (← d.opcode, first) (c.operation.ensures.result_after p i d past upto)

pub returns-then-opcode-le-TESTSET : goal.returns-then-opcode-le-TESTSET
unfolding op_of statements_by
returns-then-opcode-le-TESTSET c p words nested nups stack h =
    let i = c.args.i in
    let d : FieldsOf (word p i) c.fields_of-w.result = rw (words, ← c.at_or.ensures) c.fields_of-w.ensures in
    let below = rw (← d.opcode) at h in
    let o = c.fields_of-w.result.opcode in
    let past = c.if-opcode-le-CONCAT.false in
    let upto = c.if-opcode-le-TESTSET.true in
    let first : c.args.k ≡ 0 = omega (arith, below, at_most_one p i o (omega (arith, past)) upto) in
    let not : o ≡ 22 → ⊥ = λ z. let none : c.args.k < 0 = rw z at below in omega arith in
    rw (← d.opcode, first) (c.test.ensures.result_after p i d (omega (arith, past, not)) upto)

pub returns : goal.returns
returns c p words nested nups stack h =
    let i = c.args.i in
    let d : FieldsOf (word p i) c.fields_of-w.result = rw (words, ← c.at_or.ensures) c.fields_of-w.ensures in
    let below = rw (← d.opcode) at h in
    rw (← d.opcode) (c.from_call_on.ensures p words nested nups stack d c.if-opcode-le-TESTSET.false below)
