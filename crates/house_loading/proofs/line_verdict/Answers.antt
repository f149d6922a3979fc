-- `line_verdict`: whether a line says a number. Assumes nothing.
use mathlib.Core.Bool.{true, false}
use Rattle.std.proofs.Common.{rules}
use Rattle.house_loading.proofs.Bytes.{form_wrong, form_right, says_none_is}
use Rattle.house_loading.proofs.line_verdict.Goals as goal

pub returns-then-is_none : goal.returns-then-is_none
returns-then-is_none c =
    let a = c.args in
    let other = says_none_is c.number_at.result true c.number_at.ensures (search (rules, c.is_none.ensures, c.if-is_none.true)) in
    rw (form_wrong a.s.now a.i other)

pub returns : goal.returns
returns c =
    let a = c.args in
    let some = says_none_is c.number_at.result false c.number_at.ensures (search (rules, c.is_none.ensures, c.if-is_none.false)) in
    rw (form_right a.s.now a.i some)
