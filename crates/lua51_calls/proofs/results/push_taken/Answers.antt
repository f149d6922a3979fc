-- `push_taken` meets its contract: registers, or registers and open results. Assumes nothing.
use mathlib.Core.Path.{◌≡◌, sym}
use Rattle.std.proofs.Common.{◌-◌, ◌<◌, arith}
use Rattle.lua51_instruction.specs.Word.{field_b}
use Rattle.lua51_instruction.specs.Proto.{word, arg_a}
use Rattle.lua51_lifter.specs.Lift.{open_results, tail_for}
use Rattle.lua51_calls.proofs.Open.{taken_closed, taken_open, tail_numbers_lem}
use Rattle.ast.proofs.Written.{then}
use Rattle.lua51_calls.proofs.results.push_taken.Goals as goal

pub returns-then-b-gt0 : goal.returns-then-b-gt0
returns-then-b-gt0 c p st =
    let a = c.args in
    let is : word p a.i ≡ c.at_or.result = rw st (sym c.at_or.ensures) in
    let some : 0 < field_b c.at_or.result = rw c.b_of-b.ensures at c.if-b-gt0.true in
    rw (taken_closed p a.i a.slot (tail_for p a.i) (rw is some), is, ← c.b_of-b.ensures) c.push_counted.ensures

pub returns : goal.returns
returns c p st =
    let a = c.args in
    let is : word p a.i ≡ c.at_or.result = rw st (sym c.at_or.ensures) in
    let none : field_b c.at_or.result ≡ 0 = omega (arith, c.b_of-b.ensures, c.if-b-gt0.false) in
    let was : word p (a.i - 1) ≡ c.at_or-2.result = rw (st, ← c.saturating_sub-j.ensures) (sym c.at_or-2.ensures) in
    rw (
      taken_open p a.i a.slot (tail_for p a.i) (rw is none),
      tail_numbers_lem p a.slot (arg_a p (a.i - 1)) (open_results p (a.i - 1)),
      was,
      ← c.a_of.ensures,
      ← c.saturating_sub-j.ensures,
    )
    (then c.push_below.ensures (c.push_open_results.ensures p st))
