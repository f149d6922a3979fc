-- `put_code_blocks`. The loop's invariant: the blocks of the words before this one are printed. Assumes nothing.
use Prim.Native.Nat.{◌≤◌}
use native.Mathlib.Omega.{arith}
use mathlib.Core.Path.{◌≡◌}
use lib.ListN.{length}
use Rattle.lines.proofs.Puts.{prints_nothing, prints_further}
use Rattle.lua51_instruction.specs.Proto.{size}
use Rattle.block_lines.specs.Lines.{run_numbers, code_lines}
use Rattle.listing.proofs.BlockLines.{range_start, range_turn}
use Rattle.std.proofs.Common.{rules}
use Rattle.listing.proofs.blocks.put_code_blocks.Goals as goal

pub loop-j-init : goal.loop-j-init
loop-j-init c =
    let o = c.args.out.now in
    record { inside = omega arith; printed = λ p draws roomy. range_start (code_lines p) o; anyway = prints_nothing o }

pub loop-j-preserved : goal.loop-j-preserved
loop-j-preserved c =
    let l = c.loop-j in
    let o = c.put_range.ensures in
    record {
      inside = search rules;
      printed = λ p draws roomy.
          let le : l.j ≤ size p = rw draws.held.stands.words (search rules) in
          let here : run_numbers ≤ length l.run = omega (arith, roomy) in
          range_turn (code_lines p) l.j (l.invariant.printed p draws roomy) (o.result_after p draws here le);
      anyway = prints_further l.invariant.anyway o.anyway;
    }

pub returns-clause-result_after : goal.returns-clause-result_after
returns-clause-result_after c = absurd (omega (arith, c.loop-j.invariant.inside))

pub returns-2-clause-result_after : goal.returns-2-clause-result_after
returns-2-clause-result_after c =
    let l = c.loop-j in
    λ p draws roomy.
    let last : l.j ≡ size p = rw draws.held.stands.words (search rules) in
    let here : run_numbers ≤ length l.run = omega (arith, roomy) in
    rw last at (range_turn (code_lines p) l.j (l.invariant.printed p draws roomy) (c.put_range.ensures.result_after p draws here (omega arith)))

pub returns-2-clause-anyway : goal.returns-2-clause-anyway
returns-2-clause-anyway c = prints_further c.loop-j.invariant.anyway c.put_range.ensures.anyway
