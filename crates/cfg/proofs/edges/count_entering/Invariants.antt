-- `edges::count_entering`: after i words the counts are those of their edges and the entry's. Assumes nothing.
use Prim.Native.Nat.{ℕ, ◌+◌, ◌<◌, min}
use mathlib.Core.Path.{◌≡◌}
use lib.Dec.{eqb}
use lib.ListN.{length, get_or}
use Rattle.basics.specs.Range.{sum}
use Rattle.lua51_instruction.specs.Proto.{Proto}
use Rattle.cfg.specs.Arrays.{bit, more, exits_by}
use Rattle.cfg.proofs.edges.count_entering.Given as goal

abbrev pub invariant-loop-i : goal.invariant-loop-i
invariant-loop-i l = (p : Proto) → p.words ≡ l.words → (t : ℕ) → t < length l.counts
    → get_or l.counts t 0 ≡ min (bit (eqb t 0) + sum (exits_by p l.marks t) 0 l.i) more
