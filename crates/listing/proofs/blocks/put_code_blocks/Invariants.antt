-- `put_code_blocks`. The loop's invariant: the blocks of the words before this one are printed. Assumes nothing.
use Prim.Native.Nat.{◌≤◌}
use lib.ListN.{length}
use Rattle.lines.specs.Out.{Puts, PrintsOn}
use Rattle.lua51_instruction.specs.Proto.{Proto}
use Rattle.basics.specs.Range.{over}
use Rattle.block_lines.specs.Lines.{run_numbers, Draws, code_lines}
use Rattle.listing.proofs.blocks.put_code_blocks.Given as goal

abbrev pub invariant-loop-j : goal.invariant-loop-j
invariant-loop-j l = record {
  inside : l.j ≤ length l.drawn.function.words.now;
  printed : (p : Proto) → Draws p l.drawn → run_numbers ≤ length l.initial.run
      → Puts l.initial.out l.out (over (code_lines p) 0 l.j);
  anyway : PrintsOn l.initial.out l.out;
}
