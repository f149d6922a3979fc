-- `assignment` meets its contract: each opcode's statement. Assumes nothing.
use Prim.Native.Nat.{ℕ, ◌+◌, ◌-◌, ◌<◌}
use mathlib.Core.List.{[]}
use mathlib.Core.Path.{◌≡◌}
use native.Mathlib.Omega.{arith}
use lib.ListN.{length}
use Rattle.basics.specs.Range.{over, only}
use Rattle.basics.proofs.Range.{over_length, over_at}
use Rattle.lua51_instruction.specs.Word.{op_of}
use Rattle.lua51_instruction.specs.Proto.{arg_a, arg_b}
use Rattle.ast.specs.Statement.{Stmt, nil, close, set_register, run, count, exprs, expr}
use Rattle.lua51_lifter.specs.Lift.{statements_by}
use Rattle.lua51_runs.proofs.Arms.{sole}
use Rattle.lua51_assignments.proofs.assignment.Goals as goal

pub returns-in-0-clause-result_after : goal.returns-in-0-clause-result_after
unfolding op_of statements_by run count exprs expr
returns-in-0-clause-result_after c =
    λ p i d le h.
    let first = sole h (rw c.in-0.is) in
    rw (c.in-0.is, first, ← d.a, ← d.b, ← c.from-a.ensures, ← c.from-b.ensures) c.set_register.ensures

pub returns-in-1-clause-result_after : goal.returns-in-1-clause-result_after
unfolding op_of statements_by run count exprs expr
returns-in-1-clause-result_after c =
    λ p i d le h.
    let first = sole h (rw c.in-1.is) in
    rw (c.in-1.is, first, ← d.a, ← d.bx, ← c.from-a.ensures) c.set_register-in-1.ensures

pub returns-in-2-clause-result_after : goal.returns-in-2-clause-result_after
unfolding op_of statements_by run count exprs expr
returns-in-2-clause-result_after c =
    λ p i d le h.
    let first = sole h (rw c.in-2.is) in
    rw (c.in-2.is, first, ← d.a, ← d.b, ← c.from-a.ensures, ← c.from-b.ensures) c.set_register-in-2.ensures

pub returns-in-3-clause-result_after : goal.returns-in-3-clause-result_after
unfolding op_of statements_by run count exprs expr
returns-in-3-clause-result_after c =
    λ p i d le h.
    let k = c.args.k in
    let many = arg_b p i + 1 - arg_a p i in
    let sets : ℕ → Stmt = λ r. set_register r nil in
    let below : k < length (over (λ r. only (sets r)) (arg_a p i) many) = rw c.in-3.is at h in
    let at = over_at sets (arg_a p i) many k (close []) (omega (arith, over_length sets (arg_a p i) many)) in
    rw (c.in-3.is, at, ← d.a, ← c.from-a.ensures) (rw c.from.ensures at c.set_register-in-3.ensures)

pub returns-in-4-clause-result_after : goal.returns-in-4-clause-result_after
unfolding op_of statements_by run count exprs expr
returns-in-4-clause-result_after c =
    λ p i d le h.
    let first = sole h (rw c.in-4.is) in
    rw (c.in-4.is, first, ← d.a, ← d.b, ← c.from-a.ensures, ← c.from-b.ensures) c.set_register-in-4.ensures

pub returns-in-5-clause-result_after : goal.returns-in-5-clause-result_after
unfolding op_of statements_by run count exprs expr
returns-in-5-clause-result_after c =
    λ p i d le h.
    let first = sole h (rw c.in-5.is) in
    rw (c.in-5.is, first, ← d.a, ← d.bx, ← c.from-a.ensures) c.set_register-in-5.ensures

pub returns-in-6-clause-result_after : goal.returns-in-6-clause-result_after
unfolding op_of statements_by
returns-in-6-clause-result_after c =
    λ p i d le h.
    let first = sole h (rw c.in-6.is) in
    rw (c.in-6.is, first, ← d.a, ← d.b, ← d.c) c.get_table.ensures

pub returns-in-7-clause-result_after : goal.returns-in-7-clause-result_after
unfolding op_of statements_by run count exprs expr
returns-in-7-clause-result_after c =
    λ p i d le h.
    let first = sole h (rw c.in-7.is) in
    rw (c.in-7.is, first, ← d.a, ← d.bx, ← c.from-a.ensures) c.push_all.ensures

pub returns-in-8-clause-result_after : goal.returns-in-8-clause-result_after
unfolding op_of statements_by run count exprs expr
returns-in-8-clause-result_after c =
    λ p i d le h.
    let first = sole h (rw c.in-8.is) in
    rw (c.in-8.is, first, ← d.a, ← d.b, ← c.from-a.ensures, ← c.from-b.ensures) c.push_all-in-8.ensures

pub returns-in-9-clause-result_after : goal.returns-in-9-clause-result_after
unfolding op_of statements_by
returns-in-9-clause-result_after c =
    λ p i d le h.
    let first = sole h (rw c.in-9.is) in
    rw (c.in-9.is, first, ← d.a, ← d.b, ← d.c) c.set_table.ensures

pub returns-in-10-clause-result_after : goal.returns-in-10-clause-result_after
unfolding op_of statements_by run count exprs expr
returns-in-10-clause-result_after c =
    λ p i d le h.
    let first = sole h (rw c.in-10.is) in
    rw (c.in-10.is, first, ← d.a, ← c.from-a.ensures) c.set_register-in-10.ensures

pub returns-in_default-clause-result_after : goal.returns-in_default-clause-result_after
unfolding op_of statements_by
returns-in_default-clause-result_after c =
    let a = c.args in
    λ p i d le h.
    let last : a.w.opcode ≡ 11 = omega arith in
    let below : a.k < 2 = rw last at h in
    rw last (c.self_statement.ensures.result_after p i d below)
