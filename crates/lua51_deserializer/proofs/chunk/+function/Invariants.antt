-- `chunk::function` meets its contract. The measure is the depth that is left. The loop's invariant: what is left of the
-- nested functions gives what all of them give, and the reading is not past the end. Assumes nothing.
use Rattle.std.proofs.Common.{◌≡◌, ◌-◌, ◌≤◌, length}
use Rattle.lua51_deserializer.specs.Chunk.{many, function}
use Rattle.lua51_deserializer.specs.Walked.{places_of}
use Rattle.lua51_deserializer.proofs.chunk.+function.Given as goal

abbrev pub decreases-function : goal.decreases-function
decreases-function l = l.depth

abbrev pub invariant-loop-i : goal.invariant-loop-i
invariant-loop-i l = record {
  inside : l.reached ≤ length l.s;
  left : many (function l.s (l.depth - 1) l.me) (l.count - l.i) (places_of l.functions) l.reached
      ≡ many (function l.s (l.depth - 1) l.me) l.count (places_of l.initial.functions) l.initial.reached;
}
