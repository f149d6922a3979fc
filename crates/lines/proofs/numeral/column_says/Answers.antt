-- `column_says` meets its contract: the blanks say nothing; then there is nothing, a leading zero, or digits. Assumes nothing.
use mathlib.Core.Path.{◌≡◌, ◌∙◌, sym, ap}
use lib.ListN.{drop}
use Rattle.lines.specs.Numeral.{digits_say, column_says}
use Rattle.lines.proofs.ReadBack.{first_other_is, no_other_is, zero_leads, digits_lead, digit_alone, take_rest}
use Rattle.lines.proofs.numeral.column_says.Goals.{else-columns-first-eq-DIGIT_ZERO-via-then-columns-first-eq-DIGIT_ZERO+else-first-columns}
use Rattle.lines.proofs.numeral.column_says.Goals.{else-columns-first-eq-DIGIT_ZERO-via-else-columns-first-eq-DIGIT_ZERO}
use Rattle.lines.proofs.numeral.column_says.Goals as goal

pub returns-in_err-first : goal.returns-in_err-first
returns-in_err-first c =
    rw c.from_residual.ensures (sym (no_other_is c.args.columns.now (sym c.in_err-first.ensures)))

pub returns-then-first-columns : goal.returns-then-first-columns
returns-then-first-columns c =
    let columns = c.args.columns.now in
    let first = first_other_is columns c.in_ok-first.first (sym c.in_ok-first.ensures) in
    sym (first.behind ∙ zero_leads columns c.in_ok-first.first first.inside c.if-columns-first-eq-DIGIT_ZERO.true c.if-first-columns.true)

pub returns : goal.returns
returns c =
    let columns = c.args.columns.now in
    let i = c.in_ok-first.first in
    let first = first_other_is columns i (sym c.in_ok-first.ensures) in
    let rest = drop i columns in
    let behind : column_says rest ≡ digits_say 0 rest = elim c.else-columns-first-eq-DIGIT_ZERO.branch [
      | else-columns-first-eq-DIGIT_ZERO-via-then-columns-first-eq-DIGIT_ZERO+else-first-columns w ↦
          digit_alone columns i first.inside first.no_blank w.if-first-columns.false
      | else-columns-first-eq-DIGIT_ZERO-via-else-columns-first-eq-DIGIT_ZERO w ↦
          digits_lead columns i first.inside first.no_blank w.if-columns-first-eq-DIGIT_ZERO.false
    ] in
    c.number_of.ensures ∙ ap (digits_say 0) (take_rest columns i) ∙ sym (first.behind ∙ behind)
