-- `put_entry`: its B line, the nils, its edge. Assumes nothing.
use Rattle.lines.proofs.Puts.{puts_then, puts_prints}
use Rattle.block_lines.proofs.Parts.{entry_printed}
use Rattle.block_lines.proofs.blocks.put_entry.Goals as goal

pub returns-clause-result_after : goal.returns-clause-result_after
returns-clause-result_after c =
    let a = c.args in
    λ p parameters stack n.
    entry_printed p a.number a.n a.head.parameters a.head.stack parameters stack n
    c.put_block_line.ensures (rw (c.from-registers.ensures, c.saturating_sub.ensures) at c.put_nils.ensures) c.put_edge_line.ensures

pub returns-clause-anyway : goal.returns-clause-anyway
returns-clause-anyway c = puts_prints (puts_then c.put_block_line.ensures (puts_then c.put_nils.ensures c.put_edge_line.ensures))
