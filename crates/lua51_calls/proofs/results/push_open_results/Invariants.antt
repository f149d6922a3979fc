-- `push_open_results` meets its contract. The loop's invariant: the open results of a word from here down are left. Assumes nothing.
use mathlib.Core.Path.{◌≡◌}
use Rattle.lua51_instruction.specs.Proto.{Proto}
use Rattle.ast.specs.Statement.{expr}
use Rattle.ast.proofs.Written.{Left}
use Rattle.lua51_lifter.specs.Lift.{open_results}
use Rattle.lua51_calls.proofs.results.push_open_results.Given as goal

abbrev pub invariant-loop-before : goal.invariant-loop-before
invariant-loop-before l = (p : Proto) → p.words ≡ l.words → Left l.initial.run l.run (expr (open_results p l.j)) (expr (open_results p l.before))
