-- `put_body` meets its contract. The loop's invariant: the statements of the words before the one that is next are printed.
-- Assumes nothing.
use Prim.Native.Nat.{ℕ, ◌+◌, ◌-◌, ◌≤◌}
use mathlib.Core.Path.{◌≡◌}
use mathlib.Core.List.{List, flat_map}
use lib.ListN.{length}
use Rattle.lines.specs.Out.{Puts, PrintsOn}
use Rattle.basics.specs.Range.{over}
use Rattle.lua51_instruction.specs.Proto.{Proto}
use Rattle.lua51_function.specs.Function.{Shows}
use Rattle.lua51_lifter.specs.Blocks.{stated, naming}
use Rattle.lua51_lifter.specs.Lift as lift
use Rattle.lua51_statements.specs.Lines.{line_within}
use Rattle.lua51_lister.proofs.put_body.Given as goal

abbrev pub invariant-loop-i : goal.invariant-loop-i
invariant-loop-i l = record {
  room : length l.run ≡ length l.initial.run;
  from_first : l.from ≤ l.i;
  not_past : l.i ≤ l.from + (l.past - l.from);
  printed : (p : Proto) (ks : List ℕ) → Shows p ks l.function → l.pending ≡ lift.pending p l.from
      → Puts l.initial.out l.out (flat_map (line_within (length l.initial.run)) (over (stated naming p) l.from (l.i - l.from)))
      × (l.left ≡ lift.pending p l.i);
  anyway : PrintsOn l.initial.out l.out;
}
