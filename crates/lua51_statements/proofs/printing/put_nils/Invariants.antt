-- `put_nils` meets its contract. The loop's invariant: the assignments of the registers before the one that is next are printed.
-- Assumes nothing.
use Prim.Native.Nat.{◌-◌, ◌≤◌}
use mathlib.Core.List.{flat_map}
use Rattle.lines.specs.Out.{Puts}
use Rattle.lua51_lifter.specs.Blocks.{naming}
use Rattle.lua51_lifter.specs.Listing.{statement_line}
use Rattle.lua51_statements.proofs.Nils.{nils}
use Rattle.lua51_statements.proofs.printing.put_nils.Given as goal

abbrev pub invariant-loop-r : goal.invariant-loop-r
invariant-loop-r l = record {
  from_first : l.fn.first ≤ l.r;
  printed : Puts l.initial.out l.out (flat_map statement_line (naming l.i l.opcode (nils l.fn.first (l.r - l.fn.first))));
}
