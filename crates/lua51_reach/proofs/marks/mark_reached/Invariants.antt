-- `marks::mark_reached`: a word is marked where one of the words so far leads to it. Assumes nothing.
use Prim.Native.Nat.{ℕ, ◌<◌}
use mathlib.Core.Path.{◌≡◌}
use lib.Dec.{ltb}
use lib.ListN.{length, get_or}
use Rattle.lua51_instruction.specs.Proto.{Proto}
use Rattle.cfg.specs.Arrays.{bit}
use Rattle.lua51_reach.proofs.Marking.{so_far}
use Rattle.lua51_reach.proofs.marks.mark_reached.Given as goal

abbrev pub invariant-loop-i : goal.invariant-loop-i
invariant-loop-i l = (p : Proto) → p.words ≡ l.words → (j : ℕ) → j < length l.marks → get_or l.marks j 0 ≡ bit (ltb 0 (so_far p j l.i))
