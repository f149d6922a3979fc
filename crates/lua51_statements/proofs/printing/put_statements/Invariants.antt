-- `put_statements` meets its contract: LOADNIL's nils, or a loop. The loop's invariant: the statements before the one that is next
-- are printed. Assumes nothing.
use Prim.Native.Nat.{ℕ}
use mathlib.Core.Path.{◌≡◌}
use mathlib.Core.List.{List, flat_map}
use lib.ListN.{length, take}
use Rattle.lines.specs.Out.{Puts}
use Rattle.lua51_instruction.specs.Proto.{Proto}
use Rattle.lua51_instruction.specs.Proto as proto
use Rattle.lua51_function.specs.Function.{Shows}
use Rattle.lua51_lifter.specs.Blocks.{naming}
use Rattle.lua51_statements.specs.Lines.{own_statements, line_within}
use Rattle.lua51_statements.proofs.printing.put_statements.Given as goal

abbrev pub invariant-loop-k : goal.invariant-loop-k
invariant-loop-k l = record {
  room : length l.run ≡ length l.initial.run;
  printed : (p : Proto) (ks : List ℕ) → Shows p ks l.function
      → Puts l.initial.out l.out (flat_map (line_within (length l.initial.run)) (take l.k (naming l.i (proto.opcode p l.i) (own_statements p l.i))));
}
