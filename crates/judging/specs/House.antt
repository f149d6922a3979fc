-- What is promised of judgements and listings under a house table (document 02, 3).
use Rattle.std.specs.Prelude.{ℕ, ◌<◌, List, ◌≡◌}
use Rattle.house_table.specs.House.{lua, word_back, as_it_stands}
use Rattle.house_chunk.specs.PutBack.{chunk_back}
use Rattle.lua51_deserializer.specs.Chunk.{walk, proto_at}
use Rattle.judging.specs.Judge.{given, judge, function_of, listing_of}

-- 'For a loaded table, a chunk lists or is refused as the same chunk with its opcodes put back (those above 37 stay) would under Lua's own'
pub record AsPutBack (table s : List ℕ) : Type 0 where
  pub judged : judge (word_back table) s ≡ judge (word_back lua) (chunk_back table s)
  pub listed : (n f : ℕ) → judge (word_back table) s ≡ given n → f < n
      → listing_of (word_back table) s f ≡ listing_of (word_back lua) (chunk_back table s) f

-- 'this is shown over every permutation': over every list of numbers
abbrev pub EveryTable : Type 0
EveryTable = (table s : List ℕ) → AsPutBack table s

-- 'Before any load the table is Lua's own': functions are what the bytes have, and judgements and listings are document 01's
pub record AsDocument01 (s : List ℕ) : Type 0 where
  pub functions : (f : ℕ) → function_of (word_back lua) s f ≡ proto_at s (walk s).places f
  pub judged : judge (word_back lua) s ≡ judge as_it_stands s
  pub listed : (f : ℕ) → listing_of (word_back lua) s f ≡ listing_of as_it_stands s f

abbrev pub BeforeAnyLoad : Type 0
BeforeAnyLoad = (s : List ℕ) → AsDocument01 s
