-- The numbers and places of document 01 for what the readers of fields answer.
use Rattle.std.specs.Prelude.{ℕ, ◌≤◌, length, List, Result, Ok, Err}
use Rattle.lua51_deserializer.specs.Chunk.{Read, here, refused, ◌then◌, field, string, most_bytes}
use Rattle.lua51_deserializer.specs.declared.fields.ChunkFault.{ChunkFault}
use Rattle.lua51_deserializer.specs.declared.fields.ChunkFault.TheVariants.{TooLong, HeaderDiffers, Ended, OutOfRange, TooManyFunctions, LeftOver}

-- the number of each fault of a chunk's bytes
abbrev pub chunk_fault_number : ChunkFault → ℕ
chunk_fault_number TooLong = 1
chunk_fault_number (HeaderDiffers i) = 2
chunk_fault_number (Ended i) = 3
chunk_fault_number (OutOfRange i) = 4
chunk_fault_number (TooManyFunctions i) = 5
chunk_fault_number (LeftOver i) = 6

-- its place; 1 has 'place 0'
abbrev pub chunk_fault_place : ChunkFault → ℕ
chunk_fault_place TooLong = 0
chunk_fault_place (HeaderDiffers i) = i
chunk_fault_place (Ended i) = i
chunk_fault_place (OutOfRange i) = i
chunk_fault_place (TooManyFunctions i) = i
chunk_fault_place (LeftOver i) = i

-- 'Each gives number, function, place.'
abbrev pub read_of : Result ℕ ChunkFault → Read
read_of (Ok i) = here i
read_of (Err f) = refused (chunk_fault_number f) (chunk_fault_place f)

-- a local: 'string and two 4-byte numbers'
abbrev pub local : List ℕ → ℕ → Read
local s i = string s i then field s 4 then field s 4

-- a reading that stands at most at n; of a refusal nothing is asked
abbrev pub Bounded : ℕ → Read → Type 0
Bounded n (here i) = i ≤ n
Bounded n (refused k p) = 0 ≤ n

-- a chunk that is not too long, and a reading of it that is not past its end
pub record Inside (s : List ℕ) (r : Read) : Type 0 where
  pub short : length s ≤ most_bytes
  pub reached : Bounded (length s) r
