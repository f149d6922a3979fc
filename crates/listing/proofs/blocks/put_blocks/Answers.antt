-- `put_blocks`: code blocks, entry, betweens. Assumes nothing.
use Prim.Native.Nat.{◌≤◌}
use native.Mathlib.Omega.{arith}
use mathlib.Core.Path.{◌≡◌, sym, ap}
use lib.ListN.{length}
use Rattle.lines.proofs.Puts.{prints_further}
use Rattle.lua51_instruction.specs.Proto.{size}
use Rattle.cfg.specs.Graph.{entry_of}
use Rattle.cfg_notes.proofs.Parts.{entry_said}
use Rattle.lua51_lifter.proofs.Accepted.{end_leader}
use Rattle.block_lines.specs.Lines.{run_numbers}
use Rattle.listing.proofs.BlockLines.{graph_printed}
use Rattle.block_lines.proofs.Parts.{checked}
use Rattle.listing.proofs.blocks.put_blocks.Goals as goal

pub returns-clause-result_after : goal.returns-clause-result_after
returns-clause-result_after c =
    let a = c.args in
    let number = c.unwrap_or-number in
    let codes = c.put_code_blocks in
    λ p draws roomy.
    let ok = checked draws in
    let n : length a.drawn.now.function.words.now ≡ size p = sym (ap length ok.words) in
    let which : number.result ≡ entry_of p =
    rw (number.ensures, c.start_at.ensures, n, entry_said p a.drawn.now.notes.now ok.notes (end_leader p ok.fine)) in
    let here : run_numbers ≤ length codes.new.run = omega (arith, codes.auto.run, roomy) in
    graph_printed p number.result which (codes.ensures.result_after p draws roomy)
    (c.put_entry.ensures.result_after p draws.held.stands.parameters draws.held.stands.stack n)
    (c.put_betweens.ensures.result_after p ok here)

pub returns-clause-anyway : goal.returns-clause-anyway
returns-clause-anyway c =
    prints_further c.put_code_blocks.ensures.anyway (prints_further c.put_entry.ensures.anyway c.put_betweens.ensures.anyway)
