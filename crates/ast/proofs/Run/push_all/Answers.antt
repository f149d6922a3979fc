-- One turn writes the first of the numbers that are left. The answers do not name the numbers gone over: with
-- `let numbers = &numbers[0..];` before the loop the function is proved too (`take_all`). Assumes nothing.
use Rattle.std.proofs.Common.{arith, rules}
use Rattle.std.proofs.lemmas.List.{drop_more, take_all}
use lib.ListN.{drop_of_length-le}
use Rattle.ast.proofs.Written.{turned, done}
use Rattle.ast.proofs.Run.push_all.Goals as goal

pub loop-x-preserved : goal.loop-x-preserved
loop-x-preserved c = turned c.loop-x.invariant c.push.ensures (drop_more _ c.loop-x.x-index 0 (omega arith))

pub returns : goal.returns
returns c =
    let all = done c.loop-x.invariant (drop_of_length-le _ {i = c.loop-x.x-index} (omega arith)) in
    search (rules, take_all, all.same, all.added)
