-- `from_call_on` meets its contract: each opcode's statement. Assumes nothing.
use native.Mathlib.Omega.{arith}
use Rattle.lua51_instruction.specs.Word.{op_of}
use Rattle.lua51_instruction.specs.Proto.{arg_b, arg_c}
use Rattle.ast.specs.Statement.{run}
use Rattle.lua51_lifter.specs.Lift.{statements_by}
use Rattle.lua51_runs.proofs.Arms.{Missed, sole}
use Rattle.std.proofs.Common.{rules}
use Rattle.lua51_statements.proofs.Counts.{setlist_count, call_count, vararg_count, positive, none_else, loop_at, call_at, vararg_at}
use Rattle.lua51_statements.proofs.statement.from_call_on.Goals as goal

pub returns-in-30 : goal.returns-in-30
unfolding op_of statements_by run
returns-in-30 c p words nested nups stack d lo h =
    let first = sole h (rw c.in-30.is) in
    rw (c.in-30.is, first) (c.return_values.ensures p words)

pub returns-in-31 : goal.returns-in-31
unfolding op_of statements_by run
returns-in-31 c p words nested nups stack d lo h =
    let first = sole h (rw c.in-31.is) in
    rw (c.in-31.is, first, ← d.a, ← c.from-a.ensures) c.push_all.ensures

pub returns-in-32 : goal.returns-in-32
unfolding op_of statements_by run
returns-in-32 c p words nested nups stack d lo h =
    let first = sole h (rw c.in-32.is) in
    rw (c.in-32.is, first, ← d.a, ← c.from-a.ensures) c.push_all-in-32.ensures

pub returns-in-33 : goal.returns-in-33
unfolding op_of
returns-in-33 c p words nested nups stack d lo h =
    let a = c.args in
    rw (c.in-33.is, loop_at p a.i a.k (rw c.in-33.is at h), ← d.a, ← d.c) c.generic_loop.ensures

pub returns-in-34 : goal.returns-in-34
unfolding op_of
returns-in-34 c p words nested nups stack d lo h =
    let a = c.args in
    let first = sole h (rw (c.in-34.is, setlist_count p a.i)) in
    rw (c.in-34.is, first) (c.set_list.ensures p words)

pub returns-in-35 : goal.returns-in-35
unfolding op_of statements_by run
returns-in-35 c p words nested nups stack d lo h =
    let first = sole h (rw c.in-35.is) in
    rw (c.in-35.is, first, stack, ← d.a) c.close.ensures

pub returns-in-36 : goal.returns-in-36
unfolding op_of statements_by run
returns-in-36 c p words nested nups stack d lo h =
    let first = sole h (rw c.in-36.is) in
    rw (c.in-36.is, first) (c.closure.ensures p words nested nups)

pub returns-in-37 : goal.returns-in-37
unfolding op_of
returns-in-37 c p words nested nups stack d lo h =
    let a = c.args in
    let has = positive (arg_b p a.i) a.k (rw (c.in-37.is, vararg_count p a.i) at h) in
    rw (c.in-37.is, has.0, vararg_at p a.i has.1, ← d.a, ← d.b) c.variable_arguments.ensures

pub returns-in-28 : goal.returns-in-28
unfolding op_of
returns-in-28 c p words nested nups stack d lo h =
    let a = c.args in
    let has = positive (arg_c p a.i) a.k (rw (c.in-28.is, call_count p a.i) at h) in
    rw (c.in-28.is, has.0, call_at p a.i has.1) (c.call.ensures p words)

pub returns-in_default : goal.returns-in_default
returns-in_default c p words nested nups stack d lo h =
    let o = c.args.w.opcode in
    let past : Missed o 30 8 = search rules in
    absurd (omega (arith, none_else p c.args.i o lo (λ e. omega arith) past))
