-- The buffers hold each function of a chunk that is not refused, whole. Assumes nothing.
use mathlib.Core.List.{List, map}
use mathlib.Core.Path.{◌≡◌, refl, sym, ◌∙◌, ap}
use Prim.Native.Nat.{ℕ, ◌+◌, ◌≤◌, ◌<◌, min}
use native.Mathlib.Omega.{arith}
use lib.ListN.{length, get_or, take, drop, length-map}
use lib.Seq.{take_at, take-length}
use Rattle.lua51_instruction.specs.Proto.{Proto, size, reworded}
use Rattle.lua51_deserializer.specs.Chunk.{here, Place, Walk, nowhere, walked, walk, constants_at, constants_of, proto_at}
use Rattle.lua51_value.specs.Value.{value_at, nil}
use Rattle.lua51_value.specs.Bytes.{int_at}
use Rattle.std.proofs.Common.{Result, Ok}
use Rattle.lua51_deserializer.specs.Cursor.{read_of}
use Rattle.lua51_deserializer.specs.Walked.{places_of}
use Rattle.lua51_deserializer.specs.declared.chunk.Functions.{Functions}
use Rattle.lua51_deserializer.specs.declared.fields.ChunkFault.{ChunkFault}
use Rattle.lua51_function.specs.Function.{held_count, held_of, constant_places, Filled, Loads, WasRead, InLimits, Roomy, Holds, HoldsEach}
use Rattle.lua51_function.specs.declared.function.Head.{Head}
use Rattle.lua51_function.specs.declared.function.Loaded.{Loaded}
use Rattle.lua51_deserializer.proofs.Places.{places_length}
use Rattle.lua51_function.proofs.Buffers.{filled_length, values_are, map_at}
use Rattle.lua51_function.proofs.WholeChunk.{whole_chunk}

-- words that are taken for others are as many
pub reworded_size : (back : ℕ → ℕ) (p : Proto) → size (reworded back p) ≡ size p
unfolding reworded
reworded_size back p = length-map p.words back

-- a list that there was room for
module _ {n room : ℕ} {xs before after : List ℕ} (h : Filled n room xs before after) (fits : length xs ≤ room) where
  whole_count : length xs ≡ n
  whole_count = omega arith

  whole_content : xs ≡ take n after
  whole_content =
      rw h.content
      (sym (take_at (take n xs) (drop n before) n (rw (← whole_count) (ap length (take-length xs))) ∙ rw (← whole_count) (take-length xs)))

-- the table of a chunk that is not refused holds each of its functions
pub held_all : (s : List ℕ) (end : Result ℕ ChunkFault) (t : Functions) (at : ℕ) → walked (read_of end) (places_of t) ≡ walk s → end ≡ Ok at
    → held_of t ≡ (walk s).places
held_all s end t at e c =
    let places : places_of t ≡ (walk s).places = ap (λ (v : Walk). v.places) e in
    let read : (walk s).read ≡ here at = sym (ap (λ (v : Walk). v.read) e) ∙ rw c in
    let few = (whole_chunk s at read).functions in
    let count : held_count t ≡ t.count = omega (arith, places_length t, ap length places) in
    rw count places

-- the constants of a function are those at their places
module _ (s : List ℕ) (ps : List Place) (f : ℕ) where
  constants_are : constants_at s ps f ≡ map (value_at s) (constant_places s ps f)
  unfolding constants_at
  constants_are = let k = constants_of s (get_or ps f nowhere).start in values_are s (k + 4) (int_at s k)

  pub constants_count : length (constants_at s ps f) ≡ length (constant_places s ps f)
  constants_count = rw constants_are (simp length-map)

module _ (back : ℕ → ℕ) (s : List ℕ) (ps : List Place) (f : ℕ) (r : Loaded) (ws ws' ks ks' ns ns' us us' : List ℕ) where
  holds : WasRead s (get_or ps f nowhere) → InLimits (proto_at s ps f) → Roomy (proto_at s ps f) ws ns us
      → Loads back s ps f r ws ws' ks ks' ns ns' us us' → Holds back s ps f r ws' ks' ns' us'
  unfolding reworded
  holds read limits room l =
      let p = proto_at s ps f in
      let nested : length p.nested ≤ min (length ns) (length us) = omega arith in
      let words : length (map back p.words) ≤ length ws = omega (arith, reworded_size back p) in
      let nups : length p.nups ≤ min (length ns) (length us) = omega arith in
      record {
        stands = record {
          number = ap (λ (h : Head). h.number) (sym l.head);
          parameters = ap (λ (h : Head). h.parameters) (sym l.head);
          upvalues = ap (λ (h : Head). h.upvalues) (sym l.head);
          flags = ap (λ (h : Head). h.flags) (sym l.head);
          stack = ap (λ (h : Head). h.stack) (sym l.head);
          lines = ap (λ (h : Head). h.lines) (sym l.head);
          names = ap (λ (h : Head). h.names) (sym l.head);
          words = whole_content l.words words;
          kinds = refl;
          nested = whole_content l.nested nested;
          nups = whole_content l.nups nups;
        };
        kinds = λ h. whole_content l.kinds (omega (arith, filled_length l.kinds));
        words = sym (reworded_size back p) ∙ whole_count l.words words;
        nested = whole_count l.nested nested;
        limits = limits;
        lines = l.lines;
        places = l.places;
        constant = read.constant;
        value = λ i h. rw (constants_are s ps f) (sym (map_at (value_at s) (constant_places s ps f) i nil h));
      }

pub holds_each : HoldsEach
holds_each back s end t at f r ws ws' ks ks' ns ns' us us' walked here_at below loads room =
    let read : (walk s).read ≡ here at = sym (ap (λ (v : Walk). v.read) walked) ∙ rw here_at in
    let whole = whole_chunk s at read in
    let inside : f < length (walk s).places = omega (arith, places_length t, ap (λ (v : Walk). length v.places) walked) in
    holds back s (walk s).places f r ws ws' ks ks' ns ns' us us' (whole.read f inside) (whole.limited f inside) room
    (rw (held_all s end t at walked here_at) at loads)
