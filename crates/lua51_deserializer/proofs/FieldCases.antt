-- What is known of a boolean that was read. Assumes nothing.
use mathlib.Core.Path.{◌≡◌}
use mathlib.Core.List.{List}
use Prim.Native.Nat.{ℕ, ◌+◌, ◌≤◌}
use lib.Dec.{leb}
use lib.ListN.{length}
use Rattle.lua51_deserializer.specs.Chunk.{here}
use Rattle.lua51_value.specs.Bytes.{byte_at}
use Rattle.lua51_value.specs.Value.{kind_boolean}
use Rattle.lua51_deserializer.specs.Chunk.{constant_of, constant}
use Rattle.lua51_deserializer.proofs.FieldEnds.{passed, limited_here}

-- a boolean that was read is 0 or 1
pub boolean_small : (s : List ℕ) (i j : ℕ) → byte_at s i ≡ kind_boolean → constant s i ≡ here j → byte_at s (i + 1) ≤ 1
unfolding constant constant_of
boolean_small s i j k r =
    let kind = (passed (leb (i + 1) (length s)) (constant_of s (byte_at s i) i) 3 i r).1 in
    (limited_here s 1 1 (byte_at s (i + 1)) (i + 1) j (rw k at kind)).1
