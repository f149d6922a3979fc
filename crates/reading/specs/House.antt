-- What is promised of openings and deliveries under a house table (document 02, 3).
use Rattle.std.specs.Prelude.{ℕ, List, ◌≡◌}
use Rattle.house_table.specs.House.{lua}
use Rattle.house_chunk.specs.PutBack.{chunk_back}
use Rattle.reading.specs.Reading.{Reading, Outcome, opening, delivery}

-- the reading r with another table
abbrev pub with_table : List ℕ → Reading → Reading
with_table table r = record { is_open = r.is_open; next = r.next; table = table }

-- the same outcome with another table in its reading
abbrev pub left_with : List ℕ → Outcome → Outcome
left_with table o = record { answer = o.answer; reading = with_table table o.reading; output = o.output }

-- 'For a loaded table, a chunk lists or is refused as the same chunk with its opcodes put back (those above 37 stay) would under Lua's own':
-- where the bytes s are lent, answer, output and reading are those of the bytes put back under Lua's own table, but that the reading keeps its
-- table: 'an opening, refused or not, keeps it'
pub record CallsAsPutBack (r : Reading) (s out : List ℕ) : Type 0 where
  pub opened : opening r s out ≡ left_with r.table (opening (with_table lua r) (chunk_back r.table s) out)
  pub delivered : delivery r s out ≡ left_with r.table (delivery (with_table lua r) (chunk_back r.table s) out)

-- for every reading, and so under every permutation that was loaded
abbrev pub EveryCall : Type 0
EveryCall = (r : Reading) (s out : List ℕ) → CallsAsPutBack r s out
