-- `statement_count` meets its contract: the count of each opcode. Assumes nothing.
use Prim.Native.Nat.{◌+◌, ◌-◌}
use mathlib.Core.Path.{◌≡◌, ◌∙◌, sym}
use borrow.Author.Tests.{ne_eqb}
use native.Mathlib.Omega.{arith}
use Rattle.basics.proofs.Range.{over_length}
use Rattle.lua51_instruction.specs.Word.{op_of}
use Rattle.lua51_instruction.specs.Proto.{opcode, arg_a, arg_b}
use Rattle.ast.specs.Statement.{nil, set_register}
use Rattle.lua51_lifter.specs.Lift.{statements_by}
use Rattle.lua51_statements.proofs.Counts.{past_last, one_unless, call_count, vararg_count, one_each}
use Rattle.lua51_statements.proofs.statement.statement_count.Goals as goal

pub returns-then-opcode-gt-VARARG : goal.returns-then-opcode-gt-VARARG
unfolding statements_by
returns-then-opcode-gt-VARARG c p i e =
    let is : opcode p i ≡ c.opcode_of-opcode.result = rw e (sym c.opcode_of-opcode.ensures) in
    rw (is, past_last c.opcode_of-opcode.result c.if-opcode-gt-VARARG.true)

pub returns-in-3 : goal.returns-in-3
unfolding op_of statements_by
returns-in-3 c p i e =
    let is : opcode p i ≡ 3 = rw e (sym c.opcode_of-opcode.ensures ∙ c.in-3.is) in
    rw (
      is,
      over_length (λ r. set_register r nil) (arg_a p i) (arg_b p i + 1 - arg_a p i),
      e,
      ← c.b_of.ensures,
      ← c.a_of.ensures,
      ← c.from.ensures,
    )
    c.saturating_sub.ensures

pub returns-in-11 : goal.returns-in-11
unfolding op_of statements_by
returns-in-11 c p i e =
    let is : opcode p i ≡ 11 = rw e (sym c.opcode_of-opcode.ensures ∙ c.in-11.is) in
    rw is

pub returns-in-22 : goal.returns-in-22
unfolding op_of statements_by
returns-in-22 c p i e =
    let is : opcode p i ≡ 22 = rw e (sym c.opcode_of-opcode.ensures ∙ c.in-22.is) in
    rw is

pub returns-in-29 : goal.returns-in-29
unfolding op_of statements_by
returns-in-29 c p i e =
    let is : opcode p i ≡ 29 = rw e (sym c.opcode_of-opcode.ensures ∙ c.in-29.is) in
    rw is

pub returns-in-33 : goal.returns-in-33
unfolding op_of statements_by
returns-in-33 c p i e =
    let is : opcode p i ≡ 33 = rw e (sym c.opcode_of-opcode.ensures ∙ c.in-33.is) in
    rw is

pub returns-in-28 : goal.returns-in-28
unfolding op_of
returns-in-28 c p i e =
    let is : opcode p i ≡ 28 = rw e (sym c.opcode_of-opcode.ensures ∙ c.in-28.is) in
    rw (is, call_count p i, e, ← c.c_of.ensures) (c.from-in-28.ensures ∙ one_unless c.c_of.result)

pub returns-in-37 : goal.returns-in-37
unfolding op_of
returns-in-37 c p i e =
    let is : opcode p i ≡ 37 = rw e (sym c.opcode_of-opcode.ensures ∙ c.in-37.is) in
    rw (is, vararg_count p i, e, ← c.b_of-in-37.ensures) (c.from-in-37.ensures ∙ one_unless c.b_of-in-37.result)

pub returns-in_default : goal.returns-in_default
returns-in_default c p i e =
    let o = c.opcode_of-opcode.result in
    let is : opcode p i ≡ o = rw e (sym c.opcode_of-opcode.ensures) in
    rw is
    (
    sym
    (
    one_each p i o c.if-opcode-gt-VARARG.false
    (rw (
      ne_eqb o 3 (λ z. omega arith),
      ne_eqb o 11 (λ z. omega arith),
      ne_eqb o 22 (λ z. omega arith),
      ne_eqb o 28 (λ z. omega arith),
      ne_eqb o 29 (λ z. omega arith),
      ne_eqb o 33 (λ z. omega arith),
    ) (ne_eqb o 37 (λ z. omega arith)))
    )
    )
