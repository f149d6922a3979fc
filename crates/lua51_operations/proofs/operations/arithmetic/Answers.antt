-- `arithmetic` meets its contract: the operators stand in the order of the opcodes. Assumes nothing.
use Rattle.lua51_runs.proofs.Assigned.{set_numbers}
use Rattle.ast.proofs.Written.{then, some}
use Rattle.lua51_operations.proofs.Arithmetic.{arithmetic_is}
use Rattle.lua51_operations.proofs.operations.arithmetic.Goals as goal

pub returns : goal.returns
returns c =
    let written = then (rw c.from.ensures at c.set_register.ensures) c.push_binary.ensures in
    record {
      result_after = λ p i d lo hi.
          rw (arithmetic_is p i c.args.w.opcode lo hi, set_numbers, ← d.a, ← d.b, ← d.c, ← c.operator_of.ensures) written;
      anyway = some written;
    }
