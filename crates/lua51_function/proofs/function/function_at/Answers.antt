-- `function::function_at`: its parts, at the place of the function. Assumes nothing.
use mathlib.Core.Path.{◌≡◌, ap}
use lib.ListN.{length}
use Rattle.lua51_function.specs.Function.{held_of}
use Rattle.lua51_function.specs.declared.function.Head.{Head}
use Rattle.lua51_deserializer.specs.Chunk.{Place, proto_at}
use Rattle.lua51_function.proofs.Buffers.{loads_words, loads_places, loads_kinds}
use Rattle.lua51_function.proofs.WordLines.{lines_from, lines_inside, lines_part, lines_bytes}
use Rattle.lua51_function.proofs.function.function_at.Goals as goal

pub returns-clause-loads : goal.returns-clause-loads
unfolding proto_at
returns-clause-loads c =
    let a = c.args in
    let s = a.chunk.bytes.now in
    let ps = held_of a.chunk.functions.now in
    let e = ap (λ (p : Place). p.start) c.place_in-place.ensures in
    let t = ap (λ (p : Place). p.tail) c.place_in-place.ensures in
    let lined : c.head_at-head.result.lines ≡ length (proto_at s ps a.f).lines = ap (λ (h : Head). h.lines) c.head_at-head.ensures in
    let l = c.place_after-lines.ensures in
    let k = c.place_after-locals.ensures in
    let places = loads_places s ps a.f e c.constants_of-count_at.ensures c.place_after-first.ensures c.int_at-constants.ensures in
    record {
      head = c.head_at-head.ensures;
      places = places;
      from = lines_from s ps a.f t lined l k;
      inside = lines_inside s ps a.f t lined l k;
      lines = lines_part s ps a.f t lined l k;
      words = loads_words s ps a.f e _ _ c.fill_words.ensures;
      kinds = loads_kinds s ps a.f _ _ places c.fill_kinds.ensures;
      nested = c.fill_nested.ensures.numbers;
      nups = c.fill_nested.ensures.nups;
    }

pub returns-clause-bytes : goal.returns-clause-bytes
returns-clause-bytes c =
    let a = c.args in
    let t = ap (λ (p : Place). p.tail) c.place_in-place.ensures in
    let lined = ap (λ (h : Head). h.lines) c.head_at-head.ensures in
    lines_bytes a.chunk.bytes.now (held_of a.chunk.functions.now) a.f t lined c.place_after-lines.ensures c.place_after-locals.ensures
