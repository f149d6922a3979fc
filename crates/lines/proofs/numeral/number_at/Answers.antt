-- `number_at` meets its contract: a line that is cut, one without its line feed, one that says what its columns say.
-- Assumes nothing.
use mathlib.Core.Path.{◌∙◌, sym}
use native.Mathlib.Omega.{arith}
use Rattle.lines.proofs.ReadBack.{line_cut, line_from, line_unended, line_columns}
use Rattle.lines.proofs.numeral.number_at.Goals as goal

pub returns-in_err-get : goal.returns-in_err-get
returns-in_err-get c =
    let past = c.in_err-get.ensures.lookup in
    rw c.from_residual.ensures (sym (line_cut c.args.s.now c.args.at (omega (arith, past))))

pub returns-in_err-line : goal.returns-in_err-line
returns-in_err-line c =
    let rest = c.in_ok-get.ensures.lookup in
    let short = c.in_err-line.ensures.lookup in
    rw c.from_residual-in_err-line.ensures (sym (line_cut c.args.s.now c.args.at (omega (arith, rest, short))))

pub returns-then-line-ne-LINE_FEED : goal.returns-then-line-ne-LINE_FEED
returns-then-line-ne-LINE_FEED c =
    let rest = c.in_ok-get.ensures.lookup in
    let line = c.in_ok-line.ensures.lookup in
    let is = line_from c.args.s.now _ c.in_ok-line.line.now c.args.at rest.0.2 line.0.2 in
    sym (line_unended c.args.s.now c.args.at c.in_ok-line.line.now is c.if-line-ne-LINE_FEED.true)

pub returns : goal.returns
returns c =
    let rest = c.in_ok-get.ensures.lookup in
    let line = c.in_ok-line.ensures.lookup in
    let is = line_from c.args.s.now _ c.in_ok-line.line.now c.args.at rest.0.2 line.0.2 in
    c.column_says.ensures ∙ line_columns c.args.s.now c.args.at c.in_ok-line.line.now is c.if-line-ne-LINE_FEED.false
