-- `put_between`: its B line, its assignment, its edge. Assumes nothing.
use native.Mathlib.Omega.{arith}
use mathlib.Core.Path.{refl, ◌∙◌, sym, ap}
use lib.ListN.{length}
use borrow.Author.Tests.{lt-ltb}
use Rattle.lua51_instruction.specs.Proto.{size}
use Rattle.lines.proofs.Puts.{puts_nothing, puts_then, puts_prints, prints_nothing}
use Rattle.cfg.specs.Graph.{then_of}
use Rattle.cfg.proofs.Entering.{diverted_loop}
use Rattle.block_lines.proofs.Parts.{no_between, between_printed}
use Rattle.block_lines.proofs.Leads.{then_starts, block_read, between_read, no_between_read}
use Rattle.block_lines.proofs.Fronts.{function_of_lem}
use Rattle.block_lines.proofs.blocks.put_between.Goals as goal

pub returns-in_default-clause-result_after : goal.returns-in_default-clause-result_after
returns-in_default-clause-result_after c =
    let a = c.args in
    λ p ok roomy lt.
    let none = no_between_read p a.drawn.now.notes.now ok.notes a.i (omega arith) c.between_at.ensures c.in_default.is in
    rw (no_between p a.i none) (puts_nothing a.out.now)

pub returns-in_default-clause-anyway : goal.returns-in_default-clause-anyway
returns-in_default-clause-anyway c = prints_nothing c.args.out.now

pub returns-clause-result_after : goal.returns-clause-result_after
returns-clause-result_after c =
    let a = c.args in
    let ns = a.drawn.now.notes.now in
    λ p ok roomy lt.
    let read = between_read p ns ok.notes a.i (omega arith) c.between_at.ensures c.in-Some.is in
    let starts = then_starts p a.i (diverted_loop p a.i read.0) in
    let block = block_read p ns ok.notes (then_of p a.i) starts.inside starts.leads (c.then_block.ensures p ok.words ∙ rw (lt-ltb a.i (size p) lt)) c.unwrap_or-to.ensures in
    between_printed p a.i c.in-Some.number (length a.drawn.now.function.words.now) c.unwrap_or-to.result (length a.run.now)
    read.0 roomy read.1 (sym (ap length ok.words)) block
    c.put_block_line.ensures (c.put_on_then.ensures p ok.words) c.put_edge_line.ensures

pub returns-clause-anyway : goal.returns-clause-anyway
returns-clause-anyway c =
    let body = c.put_on_then.ensures (function_of_lem c.args.drawn.now.function.words.now) refl in
    puts_prints (puts_then c.put_block_line.ensures (puts_then body c.put_edge_line.ensures))
