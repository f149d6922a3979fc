-- `marks::mark_leaders`: after i words the marks are those that the first i words make. Assumes nothing.
use Prim.Native.Nat.{ℕ, ◌<◌}
use mathlib.Core.Path.{◌≡◌}
use lib.ListN.{length, get_or}
use Rattle.lua51_instruction.specs.Proto.{Proto}
use Rattle.cfg.specs.Arrays.{bit}
use Rattle.cfg.proofs.Claims.{leads_by}
use Rattle.cfg.proofs.marks.mark_leaders.Given as goal

abbrev pub invariant-loop-i : goal.invariant-loop-i
invariant-loop-i l = (p : Proto) → p.words ≡ l.words → (j : ℕ) → j < length l.marks → get_or l.marks j 0 ≡ bit (leads_by p l.i j)
