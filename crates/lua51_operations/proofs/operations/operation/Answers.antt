-- `operation` meets its contract: arithmetic, then each other opcode. Assumes nothing.
use mathlib.Core.Path.{◌≡◌}
use native.Mathlib.Omega.{arith}
use Rattle.lua51_instruction.specs.Word.{op_of}
use Rattle.ast.specs.Statement.{run, count, exprs, expr}
use Rattle.lua51_lifter.specs.Lift.{statements_by}
use Rattle.lua51_operations.proofs.operations.operation.Goals as goal

pub returns-in-18-clause-result_after : goal.returns-in-18-clause-result_after
unfolding op_of statements_by run count exprs expr
returns-in-18-clause-result_after c = λ p i d lo hi. rw (c.in-18.is, ← d.a, ← d.b, ← c.from-a.ensures, ← c.from-b.ensures) c.set_register.ensures

pub returns-in-19-clause-result_after : goal.returns-in-19-clause-result_after
unfolding op_of statements_by run count exprs expr
returns-in-19-clause-result_after c = λ p i d lo hi. rw (c.in-19.is, ← d.a, ← d.b, ← c.from-a.ensures, ← c.from-b.ensures) c.set_register-in-19.ensures

pub returns-in-20-clause-result_after : goal.returns-in-20-clause-result_after
unfolding op_of statements_by run count exprs expr
returns-in-20-clause-result_after c = λ p i d lo hi. rw (c.in-20.is, ← d.a, ← d.b, ← c.from-a.ensures, ← c.from-b.ensures) c.set_register-in-20.ensures

pub returns-in_default-clause-result_after : goal.returns-in_default-clause-result_after
unfolding op_of
returns-in_default-clause-result_after c =
    λ p i d lo hi.
    let last : c.args.w.opcode ≡ 21 = omega arith in
    rw last (c.concat.ensures.result_after p i d)
