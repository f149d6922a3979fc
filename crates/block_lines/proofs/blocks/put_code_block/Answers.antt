-- `put_code_block`: its B line, its front, its words, its edges. Assumes nothing.
use Prim.Native.Nat.{ℕ, ◌-◌, ◌≤◌}
use native.Mathlib.Omega.{arith}
use mathlib.Core.Path.{◌≡◌, sym, ap, ◌∙◌}
use lib.ListN.{length}
use Rattle.lines.proofs.Puts.{puts_prints, prints_further}
use Rattle.lua51_instruction.specs.Proto.{arg_bx, captures_of}
use Rattle.cfg.specs.Graph.{past}
use Rattle.block_lines.proofs.Leads.{block_read}
use Rattle.lua51_lifter.proofs.Accepted.{stack_few}
use Rattle.lua51_lifter.proofs.Captures.{leader_free}
use Rattle.lua51_lifter.specs.SourceLines.{lowest, highest}
use Rattle.lua51_lister.proofs.Runs.{body_whole}
use Rattle.block_lines.specs.Lines.{run_numbers}
use Rattle.lua51_lifter.proofs.Accepted.{end_leader}
use Rattle.lua51_lifter.proofs.Ranges.{range_within}
use Rattle.block_lines.proofs.Spans.{lines_read}
use Rattle.block_lines.proofs.Parts.{checked, front_whole, code_printed}
use Rattle.block_lines.proofs.blocks.put_code_block.Goals as goal

pub returns-clause-result_after : goal.returns-clause-result_after
returns-clause-result_after c =
    let a = c.args in
    let number = c.unwrap_or in
    let range = c.range_end-end in
    let span = c.span_of in
    let front = c.put_front in
    λ p draws roomy le leads.
    let held = draws.held in
    let ok = checked draws in
    let end : range.result ≡ past p a.j = range.ensures.value p ok.notes le in
    let stack : p.stack ≤ 255 = omega (arith, stack_few p ok.fine) in
    let drawn = a.drawn.now in
    let few : (i : ℕ) → captures_of p i ≤ 255 = λ i. rw held.stands.nups (c.few_captures.ensures (arg_bx p i)) in
    let room = length a.run.now in
    let room' = length front.new.run in
    let same : room' ≡ room = front.auto.run in
    let roomy' : run_numbers ≤ room' = omega (arith, same, roomy) in
    let lines = lines_read p drawn.lines.now held.lines a.j range.result in
    code_printed p a.j number.result range.result span.result.lowest span.result.highest room room'
    (block_read p drawn.notes.now ok.notes a.j le leads c.block_at.ensures number.ensures)
    end
    (span.ensures.0 ∙ ap lowest lines)
    (span.ensures.1 ∙ ap highest lines)
    c.put_block_line.ensures
    (front.ensures.result_after p ok le)
    (c.put_body.ensures.result_after p held.kinds held.stands (sym (leader_free p ok.fine a.j le leads))).0
    (c.put_exits.ensures.result_after p ok le end)
    (front_whole p a.j room roomy)
    (body_whole p ok.fine stack few room' roomy' a.j (past p a.j - a.j) (range_within p (end_leader p ok.fine) a.j le))

pub returns-clause-anyway : goal.returns-clause-anyway
returns-clause-anyway c =
    prints_further (puts_prints c.put_block_line.ensures)
    (prints_further c.put_front.ensures.anyway (prints_further c.put_body.ensures.anyway c.put_exits.ensures.anyway))
