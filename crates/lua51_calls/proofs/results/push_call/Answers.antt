-- `push_call` meets its contract: the callee, then what it takes. Assumes nothing.
use mathlib.Core.Path.{◌≡◌, sym}
use Rattle.lua51_instruction.specs.Proto.{word}
use Rattle.ast.specs.Statement.{expr}
use Rattle.ast.proofs.Written.{then}
use Rattle.lua51_calls.proofs.results.push_call.Goals as goal

pub returns : goal.returns
unfolding expr
returns c p st =
    let is : word p c.args.i ≡ c.at_or.result = rw st (sym c.at_or.ensures) in
    rw (is, ← c.a_of-a.ensures) (then c.push_callee.ensures (rw c.from.ensures at c.push_taken.ensures p st))
