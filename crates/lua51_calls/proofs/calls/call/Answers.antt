-- `call` meets its contract: the call alone, or the registers that get its results. Assumes nothing.
use mathlib.Core.Path.{◌≡◌, ◌∙◌, sym}
use Rattle.std.proofs.Common.{ne_eqb}
use Rattle.lua51_instruction.specs.Proto.{word, arg_a, arg_c}
use Rattle.ast.specs.Statement.{run, expr}
use Rattle.ast.proofs.Written.{then}
use Rattle.lua51_runs.proofs.Assigned.{assign_numbers}
use Rattle.lua51_calls.proofs.calls.call.Goals as goal

pub returns-then-c-eq1 : goal.returns-then-c-eq1
unfolding run
returns-then-c-eq1 c p st =
    let is : word p c.args.i ≡ c.at_or-word.result = rw st (sym c.at_or-word.ensures) in
    let one : arg_c p c.args.i ≡ 1 = rw (is, ← c.c_of-c.ensures) c.if-c-eq1.true in
    rw one (then c.push.ensures (c.push_call.ensures p st))

pub returns : goal.returns
unfolding expr
returns c p st =
    let i = c.args.i in
    let is : word p i ≡ c.at_or-word.result = rw st (sym c.at_or-word.ensures) in
    let many : arg_c p i ≡ c.c_of-c.result = rw is (sym c.c_of-c.ensures) in
    let left : arg_a p i ≡ c.a_of.result = rw is (sym c.a_of.ensures) in
    rw (ne_eqb (arg_c p i) 1 (λ z. c.if-c-eq1.false (sym many ∙ z)), assign_numbers, many, ← c.saturating_sub.ensures)
    (then (rw (c.from.ensures, ← left) at c.push_lefts.ensures)
    (then c.push-2.ensures (c.push_call-2.ensures p st)))
