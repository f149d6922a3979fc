-- `test` meets its contract: each opcode's condition. Assumes nothing.
use mathlib.Core.Path.{◌≡◌}
use native.Mathlib.Omega.{arith}
use Rattle.lua51_instruction.specs.Word.{op_of}
use Rattle.lua51_lifter.specs.Lift.{statements_by}
use Rattle.lua51_operations.proofs.tests.test.Goals as goal

pub returns-in-23-clause-result_after : goal.returns-in-23-clause-result_after
unfolding op_of statements_by
returns-in-23-clause-result_after c = λ p i d lo hi. rw (c.in-23.is, ← d.a, ← d.b, ← d.c) c.comparison.ensures

pub returns-in-24-clause-result_after : goal.returns-in-24-clause-result_after
unfolding op_of statements_by
returns-in-24-clause-result_after c = λ p i d lo hi. rw (c.in-24.is, ← d.a, ← d.b, ← d.c) c.comparison-in-24.ensures

pub returns-in-25-clause-result_after : goal.returns-in-25-clause-result_after
unfolding op_of statements_by
returns-in-25-clause-result_after c = λ p i d lo hi. rw (c.in-25.is, ← d.a, ← d.b, ← d.c) c.comparison-in-25.ensures

pub returns-in-26-clause-result_after : goal.returns-in-26-clause-result_after
unfolding op_of statements_by
returns-in-26-clause-result_after c = λ p i d lo hi. rw (c.in-26.is, ← d.c, ← d.a) (rw c.from.ensures at c.truth.ensures)

pub returns-in_default-clause-result_after : goal.returns-in_default-clause-result_after
unfolding op_of statements_by
returns-in_default-clause-result_after c =
    λ p i d lo hi.
    let last : c.args.w.opcode ≡ 27 = omega arith in
    rw (last, ← d.c, ← d.b) (rw c.from-in_default.ensures at c.truth-in_default.ensures)
