-- `concat` meets its contract. Assumes nothing.
use Rattle.lua51_runs.proofs.Assigned.{set_numbers}
use Rattle.lua51_lifter.specs.Lift.{statements_by}
use Rattle.ast.proofs.Written.{then, some}
use Rattle.lua51_operations.proofs.operations.concat.Goals as goal

pub returns : goal.returns
unfolding statements_by
returns c =
    let written = then (rw c.from.ensures at c.set_register.ensures) c.push_concatenated.ensures in
    record {
      result_after = λ p i d. rw (set_numbers, ← d.a, ← d.b, ← d.c, ← c.saturating_sub.ensures) written;
      anyway = some written;
    }
