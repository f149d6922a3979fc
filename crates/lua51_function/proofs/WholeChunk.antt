-- In a chunk that is not refused every function was read and is within the limits. Assumes nothing.
use mathlib.Core.Bool.{Bool, true, false, cond, ◌&&◌}
use mathlib.Core.List.{List, [], ◌∷◌, ◌++◌, append-nil, append_assoc}
use mathlib.Core.Path.{◌≡◌, sym, ◌∙◌, ap}
use Prim.Native.Nat.{ℕ, zero, suc, ◌+◌, ◌≤◌, ◌<◌}
use native.Mathlib.Omega.{arith}
use borrow.Author.Tests.{ltb-true, ltb-false}
use lib.Dec.{ltb, eqb}
use lib.ListN.{length, get_or, drop, length-append, length-set, length-drop, length-map}
use Rattle.basics.specs.Range.{only}
use Rattle.lua51_deserializer.specs.Chunk.{here, ◌then◌, again, count_to, constant, head, code, constants, lines, locals, names, string, Place, nowhere, Walk, walked, ◌next◌, many, begin, nest, finish, function, signature, header, ends, walk, offset, words_of, constants_of, constants_at, nested_in, proto_at, most, most_words, most_bytes, most_depth, most_functions}
use Rattle.lua51_value.specs.Bytes.{int_at}
use Rattle.lua51_value.specs.Constant.{within}
use Rattle.lua51_function.specs.Function.{places_from, number_in, upvalues_in, WasRead, InLimits, Takes, WholeChunk, Unrefused}
use Rattle.basics.proofs.Tests.{either_way}
use Rattle.lua51_deserializer.proofs.FieldEnds.{never, then_here, counted_here, numbered_here, head_here, constants_on}
use Rattle.lua51_deserializer.proofs.Walks.{from_here, finished, All, all_append, all_at}
use Rattle.lua51_deserializer.proofs.Walks.All.{none, one}
use Rattle.lua51_function.proofs.Buffers.{ints_length, places_count, values_are, nested_start}

-- ------------------------------------------------------------ one function

-- a place up to the end of the bytes is not cut off
within_is : (s : List ℕ) (i : ℕ) → i ≤ length s → within s i ≡ i
within_is s i h = either_way (ltb i (length s))
    (λ t. rw t)
    (λ t. rw t (omega (arith, ltb-false i (length s) t)))

-- each of n constants was read
each_here : (s : List ℕ) (n i j : ℕ) → again (constant s) n i ≡ here j → (k : ℕ) → k < n → (m : ℕ) × (constant s (get_or (places_from s i n) k 0) ≡ here m)
unfolding again places_from
each_here s zero i j e k h = absurd (omega arith)
each_here s (suc n) i j e zero h = let (m, first, rest) = then_here (constant s i) (again (constant s) n) j e in (m, first)
each_here s (suc n) i j e (suc k) h =
    let (m, first, rest) = then_here (constant s i) (again (constant s) n) j e in
    rw first (each_here s n m j rest k (omega arith))

module _ (s : List ℕ) (p : Place) where
  was_read : (nested end : ℕ) → (head s p.start then code s then constants s) ≡ here nested → (lines s p.tail then locals s then names s) ≡ here end → WasRead s p
  unfolding code constants
  was_read nested end front back =
      let (c, first, values) = then_here (head s p.start then code s) (constants s) nested front in
      let (w, top, words) = then_here (head s p.start) (code s) c first in
      let (m, source, far, flags) = head_here s p.start w top in
      let at : w ≡ words_of s p.start = rw source far in
      let words_begin = rw at at words in
      let behind : c ≡ constants_of s p.start = (numbered_here s most_words (words_of s p.start) c words_begin).1 in
      let values_begin = rw behind at values in
      let (small, inside, each) = counted_here s most (constant s) (constants_of s p.start) nested values_begin in
      let k = constants_of s p.start in
      record {
        head = rw at at top;
        code = rw behind at words_begin;
        nested = nested;
        constants = values_begin;
        constant = λ i h. rw (within_is s (k + 4) inside) (each_here s (int_at s k) (k + 4) nested each i (omega (arith, places_count s (within s (k + 4)) (int_at s k))));
        end = end;
        tail = back;
      }

nested_length : (f : ℕ → Place → ℕ) (me k : ℕ) (ps : List Place) → length (nested_in f me k ps) ≤ length ps
unfolding nested_in
nested_length f me k [] = omega arith
nested_length f me k (p ∷ ps) = go (ltb 0 k && eqb p.parent me) (nested_length f me (k + 1) ps)
  where
    go : (b : Bool) → length (nested_in f me (k + 1) ps) ≤ length ps → length (cond b (only (f k p)) [] ++ nested_in f me (k + 1) ps) ≤ suc (length ps)
    go true h = omega arith
    go false h = omega arith

-- main is nested in no function
nested_few : (f : ℕ → Place → ℕ) (me : ℕ) (ps : List Place) → length ps ≤ most_functions → length (nested_in f me 0 ps) < most_functions
nested_few f me ps h = rw (nested_start f me ps) (omega (arith, nested_length f me 1 (drop 1 ps), length-drop 1 ps))

in_limits : (s : List ℕ) (ps : List Place) (f : ℕ) → length ps ≤ most_functions → WasRead s (get_or ps f nowhere) → InLimits (proto_at s ps f)
unfolding proto_at constants_at code constants lines names
in_limits s ps f few r =
    let p = get_or ps f nowhere in
    let k = constants_of s p.start in
    let (b, first, name) = then_here (lines s p.tail then locals s) (names s) r.end r.tail in
    let (a, line, local) = then_here (lines s p.tail) (locals s) b first in
    let at : offset (lines s p.tail then locals s) ≡ b = ap offset first in
    let (m, source, far, flags) = head_here s p.start (words_of s p.start) r.head in
    record {
      flags = rw source flags;
      words = rw (ints_length s (words_of s p.start + 4) (int_at s (words_of s p.start))) (numbered_here s most_words (words_of s p.start) k r.code).0;
      kinds = simp length-map (rw (values_are s (k + 4) (int_at s k)) (simp length-map (rw (places_count s (within s (k + 4)) (int_at s k)) (counted_here s most (constant s) k r.nested r.constants).0)));
      nested = nested_few number_in f ps few;
      nups = nested_few (upvalues_in s) f ps few;
      lines = rw (ints_length s (p.tail + 4) (int_at s p.tail)) (numbered_here s most p.tail a line).0;
      names = rw at (counted_here s most (string s) b r.end name).0;
    }

-- its words take four bytes each and stand before its constants, which take one at least
takes : (s : List ℕ) (ps : List Place) (f : ℕ) → WasRead s (get_or ps f nowhere) → Takes s (proto_at s ps f)
unfolding proto_at constants_at constants
takes s ps f r =
    let p = get_or ps f nowhere in
    let w = words_of s p.start in
    let k = constants_of s p.start in
    let (small, inside, each) = counted_here s most (constant s) k r.nested r.constants in
    record {
      words = omega (arith, inside, ints_length s (w + 4) (int_at s w));
      kinds = simp length-map (rw (values_are s (k + 4) (int_at s k)) (simp length-map (rw (places_count s (within s (k + 4)) (int_at s k)) (omega (arith, constants_on s (int_at s k) (k + 4) r.nested each inside)))));
    }

-- ------------------------------------------------------------ the walk

module _ (s : List ℕ) where
  -- a walk from the places ps on: those that it has placed were read, and they are not too many
  record Grown (ps : List Place) (w : Walk) : Type 0 where
    more : List Place
    places : w.places ≡ ps ++ more
    all : All (WasRead s) more
    few : length ps ≤ most_functions → length w.places ≤ most_functions

  abbrev Grows : (List Place → ℕ → Walk) → Type 0
  Grows f = (ps : List Place) (i j : ℕ) → (f ps i).read ≡ here j → Grown ps (f ps i)

  grown_on : {ps : List Place} {v w : Walk} → Grown ps v → Grown v.places w → Grown ps w
  grown_on {ps} {v} {w} g h = record {
    more = g.more ++ h.more;
    places = h.places ∙ (ap (λ (qs : List Place). qs ++ h.more) g.places ∙ append_assoc ps g.more h.more);
    all = all_append g.all h.all;
    few = λ l. h.few (g.few l);
  }

  many_grows : (f : List Place → ℕ → Walk) → Grows f → (k : ℕ) → Grows (many f k)
  unfolding many
  many_grows f g zero ps i j e = record { more = []; places = sym (append-nil ps); all = none; few = λ l. l }
  many_grows f g (suc k) ps i j e =
      let (m, first, rest) = from_here (f ps i).read (f ps i).places (many f k) j e in
      rw first (grown_on (g ps i m first) (many_grows f g k (f ps i).places m j rest))

  nest_grows : (f : List Place → ℕ → Walk) → Grows f → Grows (nest s f)
  unfolding nest
  nest_grows f g ps i j e =
      let (m, count, rest) = from_here (count_to s most i) ps (many f (int_at s i)) j e in
      rw count (many_grows f g (int_at s i) ps m j rest)

  -- from a walk that was read on
  next_grown : (w : Walk) (f : List Place → ℕ → Walk) (j : ℕ) → Grows f → (w next f).read ≡ here j → (i : ℕ) × (w.read ≡ here i) × Grown w.places (w next f)
  next_grown w f j g e =
      let (i, front, rest) = from_here w.read w.places f j e in
      (i, front, rw front (g w.places i j rest))

  -- a function that has begun at i, with its nested functions, and has ended
  finish_grown : (parent i nested k end : ℕ) (ps : List Place) (w : Walk) → length ps < most_functions
      → (begin s parent ps i).read ≡ here nested → Grown (begin s parent ps i).places w → (finish s (length ps) w.places k).read ≡ here end
      → Grown ps (finish s (length ps) w.places k)
  unfolding begin finish
  finish_grown parent i nested k end ps w room front g back =
      let p : Place = record { start = i; tail = 0; parent = parent } in
      let q : Place = record { start = i; tail = k; parent = parent } in
      record {
        more = q ∷ g.more;
        places = finished s ps g.more w.places i parent k g.places;
        all = one (was_read s q nested end front back) g.all;
        few = λ l. simp length-set (g.few (omega (arith, length-append ps (only p))));
      }

  -- nested functions are read by f
  turn_grown : (parent i j : ℕ) (ps : List Place) (f : List Place → ℕ → Walk) → Grows f → length ps < most_functions
      → (begin s parent ps i next nest s f next finish s (length ps)).read ≡ here j → Grown ps (begin s parent ps i next nest s f next finish s (length ps))
  turn_grown parent i j ps f g room e =
      let v = begin s parent ps i next nest s f in
      let (k, nested, rest) = from_here v.read v.places (finish s (length ps)) j e in
      let (m, front, more) = next_grown (begin s parent ps i) (nest s f) k (nest_grows f g) nested in
      rw nested (finish_grown parent i m k j ps v room front more rest)

  function_grows : (depth parent : ℕ) → Grows (function s depth parent)
  unfolding function
  function_grows zero parent ps i j e = never e
  function_grows (suc depth) parent ps i j e = either_way (ltb (length ps) most_functions)
      (λ t. rw t (turn_grown parent i j ps (function s depth (length ps)) (function_grows depth (length ps)) (ltb-true (length ps) most_functions t) (rw t at e)))
      (λ t. never (rw t at e))

  -- ------------------------------------------------------------ the chunk

  chunk : (j : ℕ) → (walk s).read ≡ here j → WholeChunk s
  unfolding walk
  chunk j e = either_way (ltb most_bytes (length s))
      (λ t. never (rw t at e))
      (λ t.
      let w = walked (signature s header 0) [] next function s most_depth 0 in
      let (i, main, end) = then_here w.read (ends s) j (rw t at e) in
      let g = (next_grown (walked (signature s header 0) []) (function s most_depth 0) i (function_grows most_depth 0) main).2 in
      let few : length w.places ≤ most_functions = g.few (omega arith) in
      let read : (f : ℕ) → f < length w.places → WasRead s (get_or w.places f nowhere) = rw g.places (all_at g.all) in
      record {
        bytes = ltb-false most_bytes (length s) t;
        functions = rw t few;
        read = rw t read;
        limited = rw t (λ f h. in_limits s w.places f few (read f h));
        taken = rw t (λ f h. takes s w.places f (read f h));
      })

pub whole_chunk : Unrefused
whole_chunk s j e = chunk s j e
