-- `sources::span_of`: the first line and those behind it. Assumes nothing.
use mathlib.Core.Path.{refl}
use Rattle.lua51_lifter.specs.SourceLines.{lowest, highest}
use Rattle.block_lines.proofs.Spans.{no_lines, lowest_all, highest_all}
use Rattle.block_lines.proofs.sources.span_of.Goals as goal

pub returns-then-past-first : goal.returns-then-past-first
unfolding lowest highest
returns-then-past-first c =
    let a = c.args in
    rw (no_lines a.lines.now a.first a.past c.if-past-first.true) (refl, refl)

pub returns : goal.returns
returns c =
    let a = c.args in
    let line = c.line_at-line in (
      lowest_all a.lines.now a.first a.past line.result c.if-past-first.false line.ensures c.with_lines.ensures,
      highest_all a.lines.now a.first a.past line.result c.if-past-first.false line.ensures c.with_lines.ensures,
    )
