-- `judge_with`. The loop's invariant: the judgement of the functions that are left is the chunk's. Assumes nothing.
use Prim.Native.Nat.{◌-◌}
use mathlib.Core.Path.{◌≡◌}
use Rattle.house_table.specs.House.{word_by}
use Rattle.lua51_deserializer.specs.Chunk.{walk}
use Rattle.judging.specs.Judge.{judge_from, judge}
use Rattle.judging.proofs.judge_with.Given as goal

abbrev pub invariant-loop-f : goal.invariant-loop-f
invariant-loop-f g l = judge_from (word_by l.inverse) l.chunk.bytes.now (walk l.chunk.bytes.now).places l.f-counter (l.count - l.f-counter) ≡ judge (word_by l.inverse) l.chunk.bytes.now
