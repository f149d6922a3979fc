-- `put_betweens`. The loop's invariant: the betweens of the words before this one are printed. Assumes nothing.
use Prim.Native.Nat.{◌≤◌}
use lib.ListN.{length}
use Rattle.lines.specs.Out.{Puts, PrintsOn}
use Rattle.lua51_instruction.specs.Proto.{Proto}
use Rattle.basics.specs.Range.{over}
use Rattle.block_lines.specs.Lines.{run_numbers, Checked, between_lines}
use Rattle.listing.proofs.blocks.put_betweens.Given as goal

abbrev pub invariant-loop-i : goal.invariant-loop-i
invariant-loop-i l = record {
  inside : l.i ≤ length l.drawn.function.words.now;
  printed : (p : Proto) → Checked p l.drawn → run_numbers ≤ length l.initial.run
      → Puts l.initial.out l.out (over (between_lines p) 0 l.i);
  anyway : PrintsOn l.initial.out l.out;
}
