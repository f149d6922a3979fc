-- `number_of` meets its contract. The loop's invariant: all digits say what those that are left say behind x. Assumes nothing.
use mathlib.Core.Path.{◌∙◌, sym}
use native.Mathlib.Omega.{arith}
use Rattle.lines.proofs.ReadBack.{one_digit_more, at_most_seven, digits_turn, digits_stop, digits_end}
use Rattle.std.proofs.Common.{rules}
use Rattle.lines.proofs.numeral.number_of.Goals as goal

pub overflow_mul-x : goal.overflow_mul-x
overflow_mul-x c =
    let l = c.loop-b in
    let small = at_most_seven l.b-index l.x l.invariant.0 (search rules) in
    omega arith

pub returns-in_err-x : goal.returns-in_err-x
returns-in_err-x c =
    let l = c.loop-b in
    let stop = digits_stop c.args.digits.now l.b-index (search rules) l.x c.in_err-x.ensures in
    rw c.from_residual.ensures (sym (l.invariant.1 ∙ stop))

pub loop-b-preserved : goal.loop-b-preserved
loop-b-preserved c =
    let l = c.loop-b in
    let (small, turn) = digits_turn c.args.digits.now l.b-index (search rules) l.x c.in_ok-x.field-0 c.in_ok-x.ensures in
    (search (rules, one_digit_more), l.invariant.1 ∙ turn)

pub returns : goal.returns
returns c =
    let l = c.loop-b in
    sym (l.invariant.1 ∙ digits_end c.args.digits.now l.b-index l.x c.loop-b-test.false)
