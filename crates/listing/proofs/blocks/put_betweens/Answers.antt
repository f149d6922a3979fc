-- `put_betweens`. The loop's invariant: the betweens of the words before this one are printed. Assumes nothing.
use Prim.Native.Nat.{◌≤◌, ◌<◌}
use native.Mathlib.Omega.{arith}
use mathlib.Core.Path.{◌≡◌}
use lib.ListN.{length}
use Rattle.lines.proofs.Puts.{prints_nothing, prints_further}
use Rattle.lua51_instruction.specs.Proto.{size}
use Rattle.block_lines.specs.Lines.{run_numbers, between_lines}
use Rattle.listing.proofs.BlockLines.{range_start, range_turn}
use Rattle.std.proofs.Common.{rules}
use Rattle.listing.proofs.blocks.put_betweens.Goals as goal

pub loop-i-init : goal.loop-i-init
loop-i-init c =
    let o = c.args.out.now in
    record { inside = omega arith; printed = λ p ok roomy. range_start (between_lines p) o; anyway = prints_nothing o }

pub loop-i-preserved : goal.loop-i-preserved
loop-i-preserved c =
    let l = c.loop-i in
    let o = c.put_between.ensures in
    record {
      inside = search rules;
      printed = λ p ok roomy.
          let lt : l.i < size p = rw ok.words (search rules) in
          let here : run_numbers ≤ length l.run = omega (arith, roomy) in
          range_turn (between_lines p) l.i (l.invariant.printed p ok roomy) (o.result_after p ok here lt);
      anyway = prints_further l.invariant.anyway o.anyway;
    }

pub returns-clause-result_after : goal.returns-clause-result_after
returns-clause-result_after c =
    let l = c.loop-i in
    λ p ok roomy.
    let all : l.i ≡ size p = rw ok.words (omega (arith, l.invariant.inside, c.loop-i-test.false)) in
    rw all at (l.invariant.printed p ok roomy)
