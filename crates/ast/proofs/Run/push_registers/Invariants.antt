-- `push_registers` meets its contract. The loop's invariant: the registers from here on are left. Assumes nothing.
use Rattle.std.proofs.Common.{◌+◌, ◌-◌}
use Rattle.ast.specs.Statement.{[]ᵉ, registers, exprs}
use Rattle.ast.proofs.Written.{Left}
use Rattle.ast.proofs.Run.push_registers.Given as goal

abbrev pub invariant-loop-register : goal.invariant-loop-register
invariant-loop-register l =
    Left l.initial.run l.run (exprs (registers l.fn.first l.count []ᵉ)) (exprs (registers l.register (l.fn.first + l.count - l.register) []ᵉ))
