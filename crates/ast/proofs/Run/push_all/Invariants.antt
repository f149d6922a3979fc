-- `push_all` meets its contract. The loop's invariant: the numbers from here on are left. Assumes nothing.
use lib.ListN.{drop}
use Rattle.ast.proofs.Written.{Left}
use Rattle.ast.proofs.Run.push_all.Given as goal

abbrev pub invariant-loop-x : goal.invariant-loop-x
invariant-loop-x l = Left l.initial.run l.run l.numbers (drop l.x-index l.numbers)
