-- `closure` meets its contract: the function and the count, then the captures. Assumes nothing.
use mathlib.Core.Path.{◌≡◌, sym}
use Rattle.lua51_instruction.specs.Proto.{word, closure_of, captures_of}
use Rattle.lua51_lifter.specs.Lift.{statements_by}
use Rattle.lua51_runs.proofs.Captured.{count_captures, closure_numbers}
use Rattle.ast.proofs.Written.{then}
use Rattle.lua51_runs.proofs.closures.closure.Goals as goal

pub returns : goal.returns
unfolding statements_by
returns c p ws ns us =
    let i = c.args.i in
    let is : word p i ≡ c.at_or-word.result = rw ws (sym c.at_or-word.ensures) in
    let f : closure_of p i ≡ c.at_or-nested.result = rw (ns, is, ← c.bx_of-which.ensures) (sym c.at_or-nested.ensures) in
    let n : captures_of p i ≡ c.at_or-count.result = rw (us, is, ← c.bx_of-which.ensures) (sym c.at_or-count.ensures) in
    rw (closure_numbers, f, n, count_captures p i c.at_or-count.result, is, ← c.a_of.ensures)
    (then (rw (c.from.ensures, c.from-2.ensures) at c.set_register.ensures) (c.push_captures.ensures p ws))
