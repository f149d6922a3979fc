-- A chunk is judged and lists under a house table as it does, put back, under Lua's own. Assumes nothing.
use Prim.Native.Nat.{ℕ, zero, suc, ◌+◌, ◌≤◌, ◌<◌}
use native.Mathlib.Omega.{arith}
use mathlib.Core.List.{List}
use mathlib.Core.Path.{◌≡◌, refl, sym, ◌∙◌}
use lib.ListN.{length}
use Rattle.house_table.specs.House.{lua, word_back}
use Rattle.house_table.proofs.House.{lua_as_it_stands, lua_reworded}
use Rattle.house_chunk.specs.PutBack.{chunk_back}
use Rattle.house_chunk.proofs.PutBack.{every_chunk}
use Rattle.lua51_instruction.specs.Proto.{reworded}
use Rattle.lua51_deserializer.specs.Chunk.{Read, here, refused, walk, proto_at}
use Rattle.judging.specs.Judge.{given, judge_from, judge_read, judge, listing_of}
use Rattle.judging.specs.House.{EveryTable, BeforeAnyLoad}
use Rattle.judging.proofs.Acceptance.{accepted_count, read_through}

module _ (table s : List ℕ) where
  abbrev put_back : List ℕ
  put_back = chunk_back table s

  -- one function
  same_function : (e f : ℕ) → (walk s).read ≡ here e → f < length (walk s).places
      → reworded (word_back table) (proto_at s (walk s).places f) ≡ reworded (word_back lua) (proto_at put_back (walk s).places f)
  same_function e f h below = sym (lua_reworded (proto_at put_back (walk s).places f) ∙ (every_chunk table s).proto_back e f h below)

  -- those from f on, k of them
  same_from : (e : ℕ) → (walk s).read ≡ here e → (f k : ℕ) → f + k ≤ length (walk s).places
      → judge_from (word_back table) s (walk s).places f k ≡ judge_from (word_back lua) put_back (walk s).places f k
  unfolding judge_from
  same_from e h f zero few = refl
  same_from e h f (suc k) few = rw (same_function e f h (omega arith), same_from e h (f + 1) k (omega arith))

  same_judgement : judge (word_back table) s ≡ judge (word_back lua) put_back
  unfolding judge
  same_judgement = rw (every_chunk table s).walk_back (go (walk s).read refl)
    where
      go : (r : Read) → (walk s).read ≡ r
          → judge_read (word_back table) s (walk s).places r ≡ judge_read (word_back lua) put_back (walk s).places r
      go (here e) h = unfold judge_read in same_from e h 0 (length (walk s).places) (omega arith)
      go (refused n p) h = unfold judge_read in refl

  same_listing : (n f : ℕ) → judge (word_back table) s ≡ given n → f < n
      → listing_of (word_back table) s f ≡ listing_of (word_back lua) put_back f
  unfolding listing_of
  same_listing n f j lt =
      let (e, h, _) = read_through (word_back table) s n j in
      let below : f < length (walk s).places = omega (arith, accepted_count (word_back table) s n j) in
      rw ((every_chunk table s).walk_back, same_function e f h below, (every_chunk table s).constants_back e f h below)

pub every_table : EveryTable
every_table table s = record { judged = same_judgement table s; listed = same_listing table s }

pub before_any_load : BeforeAnyLoad
before_any_load s = record {
  functions = λ f. lua_reworded (proto_at s (walk s).places f);
  judged = λ i. judge (lua_as_it_stands i) s;
  listed = λ f i. listing_of (lua_as_it_stands i) s f;
}
