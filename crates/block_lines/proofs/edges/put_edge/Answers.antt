-- `put_edge`: the line of the edge, to the block that it leads to. Assumes nothing.
use Rattle.cfg.specs.Arrays.{edge_meant}
use Rattle.block_lines.proofs.Leads.{edge_line_lem}
use Rattle.block_lines.proofs.edges.put_edge.Goals as goal

pub returns-clause-result_after : goal.returns-clause-result_after
returns-clause-result_after c =
    let a = c.args in
    let to = c.leads_to in
    λ p e lt le leads. rw (← (edge_line_lem p a.i (edge_meant a.e) to.result (to.ensures p e lt le leads))) c.put_edge_line.ensures
