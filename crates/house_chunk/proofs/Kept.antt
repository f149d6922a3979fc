-- What bytes keep of a function whose words alone are put back. Assumes nothing.
use mathlib.Core.Path.{◌≡◌, refl}
use mathlib.Core.List.{List, map}
use Prim.Native.Nat.{ℕ, ◌+◌, ◌*◌, ◌<◌, ◌≤◌}
use native.Mathlib.Omega.{arith}
use lib.ListN.{length}
use Rattle.lua51_instruction.specs.Proto.{reworded}
use Rattle.lua51_value.specs.Bytes.{byte_at, int_at}
use Rattle.lua51_value.specs.Value.{kind_of}
use Rattle.lua51_deserializer.specs.Chunk.{◌then◌, lines, locals, Place, offset, ints, values_at, bytes_of, words_of}
use Rattle.lua51_deserializer.specs.Chunk.{constants_of, nested_in, constants_at, proto_at}
use Rattle.house_table.specs.House.{word_back}
use Rattle.lua51_deserializer.proofs.Walks.{All, all_at}
use Rattle.lua51_deserializer.proofs.Walks.All.{none, one}
use Rattle.house_chunk.proofs.Steady.{Same, same_part, int_same, ints_same, values_same}
use Rattle.house_chunk.proofs.Parts.{Front, words_begin, values_begin, front_on, values_read, source_alike}
use Rattle.house_chunk.proofs.Parts.{Tail, tail_on, before_names, before_names_alike}
use Rattle.house_chunk.proofs.Words.{ints_map}

-- the function at p in the bytes w is that in s, the words put back
pub record Kept (table s w : List ℕ) (p : Place) : Type 0 where
  pub upvalues : byte_at w (bytes_of w p.start) ≡ byte_at s (bytes_of s p.start)
  pub parameters : byte_at w (bytes_of w p.start + 1) ≡ byte_at s (bytes_of s p.start + 1)
  pub flags : byte_at w (bytes_of w p.start + 2) ≡ byte_at s (bytes_of s p.start + 2)
  pub stack : byte_at w (bytes_of w p.start + 3) ≡ byte_at s (bytes_of s p.start + 3)
  pub words : ints w (words_of w p.start + 4) (int_at w (words_of w p.start))
      ≡ map (word_back table) (ints s (words_of s p.start + 4) (int_at s (words_of s p.start)))
  pub values : values_at w (constants_of w p.start + 4) (int_at w (constants_of w p.start))
      ≡ values_at s (constants_of s p.start + 4) (int_at s (constants_of s p.start))
  pub line_numbers : ints w (p.tail + 4) (int_at w p.tail) ≡ ints s (p.tail + 4) (int_at s p.tail)
  pub name_count : int_at w (offset (lines w p.tail then locals w)) ≡ int_at s (offset (lines s p.tail then locals s))

-- bytes that are those of s around the words, and have the words put back
module _ (table s w : List ℕ) (i n t j parent : ℕ) (f : Front s i n) (g : Tail s t j) (l : length w ≡ length s) where
  abbrev c : ℕ
  c = words_begin s i n f

  abbrev k : ℕ
  k = values_begin s i n f

  pub kept : Same s w i (c + 4) → Same s w k n → Same s w t j
      → ((x : ℕ) → x < int_at s c → int_at w (c + 4 + 4 * x) ≡ word_back table (int_at s (c + 4 + 4 * x)))
      → Kept table s w (record { start = i; tail = t; parent = parent })
  kept before behind tail words =
      let source_w = source_alike s i n f w l before in
      let i_m : i + 4 ≤ f.m = (front_on s i n f).0 in
      let k_n : k + 4 ≤ n = (front_on s i n f).1 in
      let count : int_at w c ≡ int_at s c = int_same before c (omega arith) (omega arith) in
      record {
        upvalues = rw (source_w, f.source) (before.byte (f.m + 8) (omega arith) (omega arith));
        parameters = rw (source_w, f.source) (before.byte (f.m + 8 + 1) (omega arith) (omega arith));
        flags = rw (source_w, f.source) (before.byte (f.m + 8 + 2) (omega arith) (omega arith));
        stack = rw (source_w, f.source) (before.byte (f.m + 8 + 3) (omega arith) (omega arith));
        words = rw (source_w, f.source, count) (ints_map (word_back table) s w (c + 4) (int_at s c) words);
        values = rw (source_w, f.source, count, int_same behind k (omega arith) (omega arith))
            (values_same s w (int_at s k) (k + 4) n l (values_read s i n f) (same_part behind (omega arith) (omega arith)));
        line_numbers = rw (int_same tail t (omega arith) (omega (arith, tail_on s t j g)))
            (ints_same (t + 4) (int_at s t) (same_part tail (omega arith) (omega (arith, tail_on s t j g))));
        name_count = rw (before_names_alike s t j g w l tail, before_names s t j g)
            (int_same tail g.b (omega (arith, (tail_on s t j g).0)) (tail_on s t j g).1);
      }

-- ------------------------------------------------------------ functions among others

module _ (table s w : List ℕ) where
  nups_same : (me k : ℕ) {ps : List Place} → All (Kept table s w) ps
      → nested_in (λ k p. byte_at w (bytes_of w p.start)) me k ps ≡ nested_in (λ k p. byte_at s (bytes_of s p.start)) me k ps
  unfolding nested_in
  nups_same me k none = refl
  nups_same me k (one h hs) = rw (h.upvalues, nups_same me (k + 1) hs)

  module _ (ps : List Place) (all : All (Kept table s w) ps) (f : ℕ) (below : f < length ps) where
    pub constants_same : constants_at w ps f ≡ constants_at s ps f
    unfolding constants_at
    constants_same = (all_at all f below).values

    pub proto_same : proto_at w ps f ≡ reworded (word_back table) (proto_at s ps f)
    unfolding proto_at reworded
    proto_same =
        let h = all_at all f below in
        λ x. record {
          number = f;
          upvalues = h.upvalues x;
          parameters = h.parameters x;
          flags = h.flags x;
          stack = h.stack x;
          words = h.words x;
          kinds = map kind_of (constants_same x);
          nested = nested_in (λ k p. k) f 0 ps;
          nups = nups_same f 0 all x;
          lines = h.line_numbers x;
          names = h.name_count x;
        }
