-- `function::fill_nested`: the loop's invariant: n nested functions stand in front, and the rest are those from k on.
-- Assumes nothing.
use Prim.Native.Nat.{◌<◌}
use lib.ListN.{drop}
use Rattle.lua51_function.specs.Function.{held_of, number_in, upvalues_in}
use Rattle.lua51_deserializer.specs.Chunk.{nested_in}
use Rattle.lua51_function.proofs.Buffers.{Filling}
use Rattle.lua51_function.proofs.function.fill_nested.Given as goal

abbrev pub invariant-loop-k : goal.invariant-loop-k
invariant-loop-k l =
    let ps = held_of l.chunk.functions.now in
    record {
      first : 0 < l.k;
      numbers : Filling l.n (nested_in number_in l.me 0 ps) (nested_in number_in l.me l.k (drop l.k ps)) l.initial.numbers l.numbers;
      nups : Filling l.n (nested_in (upvalues_in l.chunk.bytes.now) l.me 0 ps) (nested_in (upvalues_in l.chunk.bytes.now) l.me l.k (drop l.k ps)) l.initial.nups l.nups;
    }
