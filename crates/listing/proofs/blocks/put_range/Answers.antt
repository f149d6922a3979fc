-- `put_range`: a block where a range starts. Assumes nothing.
use mathlib.Core.Path.{sym, ◌∙◌}
use Rattle.lines.proofs.Puts.{puts_nothing, prints_nothing}
use Rattle.block_lines.specs.Lines.{code_lines}
use Rattle.listing.proofs.BlockLines.{start_read}
use Rattle.listing.proofs.blocks.put_range.Goals as goal

pub returns-then-is_some-clause-result_after : goal.returns-then-is_some-clause-result_after
unfolding code_lines
returns-then-is_some-clause-result_after c =
    let a = c.args in
    λ p draws roomy le.
    let leads = sym (start_read p a.drawn.now.notes.now draws.notes a.j le c.start_at.ensures) ∙ sym c.is_some.ensures ∙ c.if-is_some.true in
    rw leads (c.put_code_block.ensures.result_after p draws roomy le leads)

pub returns-else-is_some-clause-result_after : goal.returns-else-is_some-clause-result_after
unfolding code_lines
returns-else-is_some-clause-result_after c =
    let a = c.args in
    λ p draws roomy le.
    let none = sym (start_read p a.drawn.now.notes.now draws.notes a.j le c.start_at.ensures) ∙ sym c.is_some.ensures ∙ c.if-is_some.false in
    rw none (puts_nothing a.out.now)

pub returns-else-is_some-clause-anyway : goal.returns-else-is_some-clause-anyway
returns-else-is_some-clause-anyway c = prints_nothing c.args.out.now
