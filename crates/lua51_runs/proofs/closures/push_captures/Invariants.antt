-- `push_captures` meets its contract. The loop's invariant: the captures from here on are left. Assumes nothing.
use Rattle.std.proofs.Common.{◌≡◌, ◌+◌, ◌-◌}
use Rattle.lua51_instruction.specs.Proto.{Proto}
use Rattle.ast.specs.Statement.{exprs}
use Rattle.ast.proofs.Written.{Left}
use Rattle.lua51_lifter.specs.Lift.{captures}
use Rattle.lua51_runs.proofs.closures.push_captures.Given as goal

abbrev pub invariant-loop-k : goal.invariant-loop-k
invariant-loop-k l =
    (p : Proto) → p.words ≡ l.words → Left l.initial.own l.own (exprs (captures p l.i l.count)) (exprs (captures p (l.i + l.k) (l.count - l.k)))
