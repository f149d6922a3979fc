-- Demand 3 for what a delivery writes: the listing that stands in the output is of the function's graph, and the follower
-- of that graph and the follower of the lent words write the same account.
use Rattle.std.specs.Prelude.{ℕ, Bool, ◌≡◌, List, take}
use Rattle.house_table.specs.House.{word_back}
use Rattle.lua51_deserializer.specs.Chunk.{walk, constants_at}
use Rattle.lua51_lifter.specs.Listing.{listing}
use Rattle.judging.specs.Judge.{given, function_of}
use Rattle.follow.specs.Demand.{Agree}
use Rattle.reading.specs.Reading.{Reading, delivery}

-- the first m bytes of an output are the listing of function f of the chunk s, each word w taken for back w, which has the lines of its
-- `graph`, each statement with the word that it names; and for every list of answers, whoever follows that `graph` by its statements and
-- whoever follows these words write the same account
pub record Printed (back : ℕ → ℕ) (s : List ℕ) (f m : ℕ) (out : List ℕ) : Type 0 where
  pub lines : take m out ≡ listing (function_of back s f) (constants_at s (walk s).places f)
  pub followed : (answers : List Bool) → Agree (function_of back s f) answers

-- for every reading r, bytes s and output o: if the delivery answers a length m, then its output begins with such a listing
-- of r's next function, under r's table
abbrev pub DeliveredFollowed : Type 0
DeliveredFollowed =
    (r : Reading) (s o : List ℕ) (m : ℕ) → (delivery r s o).answer ≡ given m
    → Printed (word_back r.table) s r.next m (delivery r s o).output
