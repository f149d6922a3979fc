-- `function::fill_words`: the loop's invariant: the first i words stand in front. Assumes nothing.
use mathlib.Core.List.{◌∷◌, map}
use mathlib.Core.Path.{◌≡◌, sym, ap, ◌∙◌}
use Prim.Native.Nat.{◌+◌, ◌<◌}
use native.Mathlib.Numerals.{add-one}
use native.Mathlib.Omega.{arith}
use lib.ListN.{length, get_or, take, drop, length-map, length-take}
use lib.Seq.{drop-cons}
use Rattle.house_table.specs.House.{word_by}
use Rattle.lua51_value.specs.Bytes.{int_at}
use Rattle.lua51_deserializer.specs.Chunk.{ints, words_of}
use Rattle.lua51_value.proofs.Ends.{int_within}
use Rattle.lua51_function.proofs.Buffers.{filling_as, filling_more, filling_front, filled_count}
use Rattle.lua51_function.proofs.Buffers.{ints_length, map_at, word_at}
use Rattle.lua51_function.proofs.function.fill_words.Goals as goal

pub loop-i-preserved : goal.loop-i-preserved
loop-i-preserved c =
    let l = c.loop-i in
    let i = l.i in
    let a = c.args in
    let s = a.s.now in
    let back = word_by a.inverse.now in
    let w = words_of s a.start in
    let stored = ints s (w + 4) (int_at s w) in
    let words = map back stored in
    let n : c.int_at.result ≡ int_at s w = c.int_at.ensures ∙ rw c.words_of-at.ensures (int_within s w) in
    let room : i < length (take c.min-n.result a.words.now) = c.loop-i-test.true in
    let h : i < int_at s w = omega (arith, length-take c.min-n.result a.words.now) in
    let among : i < length stored = omega (arith, ints_length s (w + 4) (int_at s w)) in
    let inside : i < length words = omega (arith, length-map stored back) in
    let next : drop i words ≡ get_or words i 0 ∷ drop (i + 1) words = rw (add-one i) (drop-cons words i 0 inside) in
    let value : c.int_at-stored.result ≡ get_or stored i 0 =
    word_at s w (int_at s w) i h c.words_of-at.ensures c.place_after-first.ensures c.place_after.ensures c.int_at-stored.ensures in
    let put : c.word_back.result ≡ get_or words i 0 = c.word_back.ensures ∙ (ap back value ∙ sym (map_at back stored i 0 among)) in
    filling_more c.word_back.result (filling_as l.invariant next) put room

pub returns : goal.returns
returns c =
    let l = c.loop-i in
    let a = c.args in
    let s = a.s.now in
    let w = words_of s a.start in
    let stored = ints s (w + 4) (int_at s w) in
    let n : c.int_at.result ≡ int_at s w = c.int_at.ensures ∙ rw c.words_of-at.ensures (int_within s w) in
    let e : l.i ≡ c.min-n.result = omega (arith, length-take c.min-n.result a.words.now) in
    let long : length (map (word_by a.inverse.now) stored) ≡ int_at s w = length-map stored _ ∙ ints_length s (w + 4) (int_at s w) in
    filled_count (filling_front l.invariant e (omega arith)) (length a.words.now) (omega arith)
