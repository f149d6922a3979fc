-- `function::fill_words`: the loop's invariant: the first i words stand in front. Assumes nothing.
use mathlib.Core.List.{map}
use Prim.Native.Nat.{◌+◌}
use lib.ListN.{drop}
use Rattle.house_table.specs.House.{word_by}
use Rattle.lua51_value.specs.Bytes.{int_at}
use Rattle.lua51_deserializer.specs.Chunk.{ints, words_of}
use Rattle.lua51_function.proofs.Buffers.{Filling}
use Rattle.lua51_function.proofs.function.fill_words.Given as goal

abbrev pub invariant-loop-i : goal.invariant-loop-i
invariant-loop-i l =
    let all = map (word_by l.inverse) (ints l.s (words_of l.s l.start + 4) (int_at l.s (words_of l.s l.start))) in
    Filling l.i all (drop l.i all) l.initial.word-items l.word-items
