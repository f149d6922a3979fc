-- `function::fill_kinds`: the loop's invariant: the first kinds stand in front, and the rest are found from the place
-- that is next. Assumes nothing.
use mathlib.Core.List.{map}
use Prim.Native.Nat.{◌-◌}
use Rattle.lua51_function.specs.Function.{places_from, kind_at}
use Rattle.lua51_function.proofs.Buffers.{Filling}
use Rattle.lua51_function.proofs.function.fill_kinds.Given as goal

abbrev pub invariant-loop-kind : goal.invariant-loop-kind
invariant-loop-kind l =
    let all = map (kind_at l.s) (places_from l.s l.first l.count) in
    let rest = map (kind_at l.s) (places_from l.s l.at (l.count - l.kind-index)) in
    Filling l.kind-index all rest l.initial.kind-items l.kind-items
