-- 'the same chunk with its opcodes put back' (document 02, 3), as bytes.
use Rattle.std.specs.Prelude.{ℕ, zero, suc, ◌+◌, ◌<◌, List, [], ◌∷◌, ◌≡◌, length, set}
use Rattle.lua51_instruction.specs.Proto.{reworded}
use Rattle.lua51_value.specs.Bytes.{byte_at, int_at}
use Rattle.lua51_deserializer.specs.Chunk.{Read, here, refused, Place, words_of, walk, constants_at, proto_at}
use Rattle.house_table.specs.House.{word_back}

-- the bytes s with n words from i on put back: an opcode stands in the lowest 6 bits of its word, and so in the first byte
unfoldable pub code_back : List ℕ → List ℕ → ℕ → ℕ → List ℕ
code_back table s i zero = s
code_back table s i (suc n) = code_back table (set s i (word_back table (byte_at s i))) (i + 4) n

-- with the words of the function that starts at `start` put back
unfoldable pub function_back : List ℕ → List ℕ → ℕ → List ℕ
function_back table s start = code_back table s (words_of s start + 4) (int_at s (words_of s start))

-- with those of each function
unfoldable pub functions_back : List ℕ → List ℕ → List Place → List ℕ
functions_back table s [] = s
functions_back table s (p ∷ ps) = functions_back table (function_back table s p.start) ps

-- bytes that 1 to 6 refuse have no words to put back
unfoldable pub read_back : List ℕ → List ℕ → List Place → Read → List ℕ
read_back table s ps (here i) = functions_back table s ps
read_back table s ps (refused n p) = s

unfoldable pub chunk_back : List ℕ → List ℕ → List ℕ
chunk_back table s = read_back table s (walk s).places (walk s).read

-- ------------------------------------------------------------ what is promised of it

-- It is walked as the chunk is, and each of its functions is the chunk's, the words put back.
pub record PutBack (table s : List ℕ) : Type 0 where
  pub walk_back : walk (chunk_back table s) ≡ walk s
  pub proto_back : (e f : ℕ) → (walk s).read ≡ here e → f < length (walk s).places
      → proto_at (chunk_back table s) (walk s).places f ≡ reworded (word_back table) (proto_at s (walk s).places f)
  pub constants_back : (e f : ℕ) → (walk s).read ≡ here e → f < length (walk s).places
      → constants_at (chunk_back table s) (walk s).places f ≡ constants_at s (walk s).places f
  pub unread_back : (n p : ℕ) → (walk s).read ≡ refused n p → chunk_back table s ≡ s

-- for every table, a permutation or not, and all bytes
abbrev pub EveryChunk : Type 0
EveryChunk = (table s : List ℕ) → PutBack table s
