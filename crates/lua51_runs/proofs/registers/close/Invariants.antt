-- `close` meets its contract. The loop's invariant: the registers from here on are left. Assumes nothing.
use Rattle.std.proofs.Common.{◌-◌}
use Rattle.basics.specs.Range.{over, only}
use Rattle.ast.proofs.Written.{Left}
use Rattle.lua51_runs.proofs.registers.close.Given as goal

abbrev pub invariant-loop-register : goal.invariant-loop-register
invariant-loop-register l =
    Left l.initial.own l.own (over only l.first (l.stack - l.first)) (over only l.register (l.stack - l.register))
