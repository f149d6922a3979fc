-- `listed::take_untold_out`: it keeps no more than it has read. Assumes nothing.
use Prim.Native.Nat.{◌≤◌}
use Rattle.replay.proofs.listed.take_untold_out.Given as goal

abbrev pub invariant-loop-i : goal.invariant-loop-i
invariant-loop-i l = l.kept ≤ l.i-counter
