-- `all`: the records that are counted are those that were read. Assumes nothing.
use mathlib.Core.Path.{◌≡◌}
use Prim.Native.Nat.{◌+◌}
use Rattle.replay.proofs.all.Given as goal

abbrev pub invariant-loop-index : goal.invariant-loop-index
invariant-loop-index g l = (l.agree + l.differ ≡ l.index) × goal.F-IsAlwaysCallable g l.next
