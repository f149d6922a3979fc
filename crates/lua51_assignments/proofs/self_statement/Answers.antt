-- `self_statement` meets its contract. Assumes nothing.
use mathlib.Core.Path.{◌≡◌}
use native.Mathlib.Omega.{arith}
use Rattle.ast.specs.Statement.{run, count, exprs, expr}
use Rattle.lua51_lifter.specs.Lift.{statements_by}
use Rattle.lua51_assignments.proofs.self_statement.Goals as goal

pub returns-then-k-eq0-clause-result_after : goal.returns-then-k-eq0-clause-result_after
unfolding statements_by run count exprs expr
returns-then-k-eq0-clause-result_after c = λ p i d h. rw (c.if-k-eq0.true, ← d.a, ← d.b) (rw (c.from.ensures, c.from-then-k-eq0.ensures) at c.set_register.ensures)

pub returns-clause-result_after : goal.returns-clause-result_after
unfolding statements_by
returns-clause-result_after c =
    λ p i d h.
    let second : c.args.k ≡ 1 = omega (arith, c.if-k-eq0.false) in
    rw (second, ← d.a, ← d.b, ← d.c) c.get_table.ensures
