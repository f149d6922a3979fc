-- `table_of` meets its contract: the length, the form of all lines, the numbers. Assumes nothing.
use mathlib.Core.Path.{sym}
use Rattle.std.proofs.lemmas.Result.{err_from_is_err_and}
use Rattle.house_loading.proofs.Bytes.{length_wrong, forms_wrong, numbers_decide}
use Rattle.house_loading.proofs.table_of.Goals as goal

pub returns-then-s-ne-TABLE_LENGTH-clause-verdict : goal.returns-then-s-ne-TABLE_LENGTH-clause-verdict
returns-then-s-ne-TABLE_LENGTH-clause-verdict c = sym (length_wrong c.args.s.now c.if-s-ne-TABLE_LENGTH.true)

pub returns-in_err-lines_verdict-clause-verdict : goal.returns-in_err-lines_verdict-clause-verdict
returns-in_err-lines_verdict-clause-verdict c =
    let p = err_from_is_err_and c.from_residual.result c.from_residual.ensures.1 in
    rw (p.1, p.2) (forms_wrong c.args.s.now _ _ c.if-s-ne-TABLE_LENGTH.false c.in_err-lines_verdict.ensures)

pub returns-in_err-numbers_verdict-clause-verdict : goal.returns-in_err-numbers_verdict-clause-verdict
returns-in_err-numbers_verdict-clause-verdict c =
    let forms = c.in_ok-lines_verdict.ensures in
    let numbers = rw c.table_numbers-numbers.ensures at c.in_err-numbers_verdict.ensures in
    let p = err_from_is_err_and c.from_residual-in_err-numbers_verdict.result c.from_residual-in_err-numbers_verdict.ensures.1 in
    rw (p.1, p.2) (numbers_decide c.args.s.now _ c.if-s-ne-TABLE_LENGTH.false forms numbers)

pub returns-clause-verdict : goal.returns-clause-verdict
returns-clause-verdict c =
    let forms = c.in_ok-lines_verdict.ensures in
    let numbers = rw c.table_numbers-numbers.ensures at c.in_ok-numbers_verdict.ensures in
    numbers_decide c.args.s.now _ c.if-s-ne-TABLE_LENGTH.false forms numbers
