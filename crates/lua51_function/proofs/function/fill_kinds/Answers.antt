-- `function::fill_kinds`: the loop's invariant: the first i kinds stand in front, and the rest are found from the place
-- that is next. Assumes nothing.
use mathlib.Core.List.{◌∷◌, map}
use mathlib.Core.Path.{◌≡◌, ◌∙◌, ap}
use Prim.Native.Nat.{◌+◌, ◌-◌}
use native.Mathlib.Omega.{arith}
use lib.ListN.{length, length-map, length-take}
use Rattle.lua51_function.specs.Function.{places_from, kind_at}
use Rattle.lua51_deserializer.specs.Chunk.{offset, constant}
use Rattle.lua51_function.proofs.Buffers.{filling_as, filling_more, filling_front, filled_count}
use Rattle.lua51_deserializer.proofs.Cursor.{read_offset}
use Rattle.lua51_function.proofs.Buffers.{places_turn, places_count}
use Rattle.lua51_function.proofs.function.fill_kinds.Goals as goal

pub loop-kind-preserved : goal.loop-kind-preserved
loop-kind-preserved c =
    let l = c.loop-kind in
    let i = l.kind-index in
    let a = c.args in
    let s = a.s.now in
    let at : c.unwrap_or-at.result ≡ offset (constant s l.at) = c.unwrap_or-at.ensures ∙ (read_offset c.constant.result ∙ rw c.constant.ensures) in
    let next : places_from s l.at (a.count - i) ≡ l.at ∷ places_from s c.unwrap_or-at.result (a.count - (i + 1)) =
    rw at (places_turn s l.at a.count i (omega (arith, length-take c.min-n.result a.kinds.now))) in
    filling_more _ (filling_as l.invariant (ap (map (kind_at s)) next)) c.kind_at.ensures (omega arith)

pub returns : goal.returns
returns c =
    let l = c.loop-kind in
    let a = c.args in
    let e : l.kind-index ≡ c.min-n.result = omega (arith, length-take c.min-n.result a.kinds.now) in
    let size : length (places_from a.s.now a.first a.count) ≡ a.count = places_count a.s.now a.first a.count in
    filled_count (filling_front l.invariant e (omega arith)) _ (simp length-map (omega arith))
