-- The offset that a reader answers is where its reading stands. Assumes nothing.
use mathlib.Core.Path.{◌≡◌, refl}
use Prim.Native.Nat.{ℕ}
use Rattle.std.specs.Prelude.{Result, Ok, Err}
use Rattle.std.specs.Result.{result_unwrap_or}
use Rattle.lua51_deserializer.specs.Cursor.{read_of}
use Rattle.lua51_deserializer.specs.declared.fields.ChunkFault.{ChunkFault}
use Rattle.lua51_deserializer.specs.Chunk.{offset}

pub read_offset : (r : Result ℕ ChunkFault) → result_unwrap_or r 0 ≡ offset (read_of r)
read_offset (Ok i) = refl
read_offset (Err f) = refl
