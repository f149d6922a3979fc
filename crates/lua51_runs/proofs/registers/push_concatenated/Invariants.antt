-- `push_concatenated` meets its contract. The loop's invariant: the registers from here on are left. Assumes nothing.
use Rattle.std.proofs.Common.{◌-◌}
use Rattle.ast.specs.Statement.{expr}
use Rattle.ast.proofs.Written.{Left}
use Rattle.lua51_lifter.specs.Lift.{concatenated}
use Rattle.lua51_runs.proofs.registers.push_concatenated.Given as goal

abbrev pub invariant-loop-register : goal.invariant-loop-register
invariant-loop-register l =
    Left l.initial.own l.own (expr (concatenated l.fn.first l.more)) (expr (concatenated l.register (l.last - l.register)))
