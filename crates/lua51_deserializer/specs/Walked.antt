-- The places of the functions that a walk over a chunk keeps in its table.
use Rattle.std.specs.Prelude.{ℕ, List, get_or}
use Rattle.basics.specs.Range.{over, only}
use Rattle.lua51_deserializer.specs.Chunk.{Place}
use Rattle.lua51_deserializer.specs.declared.chunk.Functions.{Functions}
use Rattle.lua51_deserializer.specs.declared.chunk.Place as kept

-- a place as it is held
abbrev pub place_of : kept.Place → Place
place_of p = record { start = p.start; tail = p.tail; parent = p.parent }

-- the place of a function, by its number, in a table's starts, tails and parents; where none is, 0
abbrev pub place_at : List ℕ → List ℕ → List ℕ → ℕ → Place
place_at starts tails parents f = record { start = get_or starts f 0; tail = get_or tails f 0; parent = get_or parents f 0 }

-- the places of the functions that have begun
abbrev pub places_of : Functions → List Place
places_of t = over (λ f. only (place_at t.starts t.tails t.parents f)) 0 t.count
