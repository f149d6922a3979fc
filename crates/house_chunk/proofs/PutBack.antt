-- A chunk that was read whole is read the same with its opcodes put back, and each of its functions is the same, the words put back.
-- Assumes nothing.
use mathlib.Core.Path.{◌≡◌, refl, sym, ap, ◌∙◌}
use mathlib.Core.Bool.{true, false, cond}
use mathlib.Core.List.{List, [], ◌∷◌, ◌++◌, append_assoc, append-nil}
use Prim.Native.Nat.{ℕ, zero, suc, ◌+◌, ◌*◌, ◌<◌, ◌≤◌}
use native.Mathlib.Omega.{arith}
use lib.Dec.{ltb}
use lib.ListN.{length}
use Rattle.basics.specs.Range.{only}
use Rattle.lua51_value.specs.Bytes.{int_at}
use Rattle.lua51_deserializer.specs.Chunk.{Read, here, refused, ◌then◌, count_to, head, code, constants, lines, locals, names}
use Rattle.lua51_deserializer.specs.Chunk.{Place, Walk, walked, ◌next◌, many, begin, nest, finish, function, header}
use Rattle.lua51_deserializer.specs.Chunk.{signature, ends, walk, most, most_depth, most_bytes, most_functions}
use Rattle.house_table.specs.House.{word_back}
use Rattle.house_chunk.specs.PutBack.{code_back, function_back, functions_back, read_back, chunk_back, EveryChunk}
use Rattle.basics.proofs.Tests.{either_way}
use Rattle.lua51_deserializer.proofs.Bounds.{function_bounded}
use Rattle.lua51_deserializer.proofs.FieldEnds.{never, then_here, here_is, count_here}
use Rattle.lua51_deserializer.proofs.Walks.{from_here, finished, All, all_append}
use Rattle.lua51_deserializer.proofs.Walks.All.{none, one}
use Rattle.house_chunk.proofs.Steady.{Same, same_part, same_then, same_all, int_same, count_steady, signature_steady}
use Rattle.house_chunk.proofs.Parts.{Front, front, words_begin, values_begin, front_on, source_alike, front_alike}
use Rattle.house_chunk.proofs.Parts.{Tail, tail, tail_on, tail_alike}
use Rattle.house_chunk.proofs.Words.{Coded, coded}
use Rattle.house_chunk.proofs.Kept.{Kept, kept, constants_same, proto_same}

functions_append : (table u : List ℕ) (ps qs : List Place)
    → functions_back table u (ps ++ qs) ≡ functions_back table (functions_back table u ps) qs
unfolding functions_back
functions_append table u [] qs = refl
functions_append table u (p ∷ ps) qs = functions_append table (function_back table u p.start) ps qs

module _ (table s : List ℕ) where
  -- bytes u, which are those of s from i to j, become v; and whatever bytes w are those of v from i to j, the walk r reads them as
  -- it reads s, and they keep the functions at `new`
  record Putting (r : List ℕ → List Place → ℕ → Walk) (ps : List Place) (i j : ℕ) (new : List Place) (u v : List ℕ) : Type 0 where
    long : length v ≡ length s
    below : Same u v 0 i
    behind : (m : ℕ) → Same u v j m
    anew : (w : List ℕ) → length w ≡ length s → Same v w i j → (r w ps i ≡ r s ps i) × All (Kept table s w) new

  -- a walk r over s from i to j, and the functions that it places behind ps
  record Back (r : List ℕ → List Place → ℕ → Walk) (ps : List Place) (i j : ℕ) : Type 0 where
    new : List Place
    added : (r s ps i).places ≡ ps ++ new
    onward : i ≤ j
    puts : (u : List ℕ) → length u ≡ length s → Same s u i j → Putting r ps i j new u (functions_back table u new)

  abbrev Backs : (List ℕ → List Place → ℕ → Walk) → Type 0
  Backs r = (ps : List Place) (i j : ℕ) → (r s ps i).read ≡ here j → Back r ps i j

  -- ------------------------------------------------------------ one after the other

  many_back : (r : List ℕ → List Place → ℕ → Walk) → Backs r → (k : ℕ) → Backs (λ w. many (r w) k)
  unfolding many functions_back
  many_back r each zero ps i j h = record {
    new = [];
    added = sym (append-nil ps);
    onward = omega (arith, here_is h);
    puts = λ u l e. record { long = l; below = same_all; behind = λ m. same_all; anew = λ w l e. (refl, none) };
  }
  many_back r each (suc k) ps i j h =
      let (m, d, g) = from_here (r s ps i).read (r s ps i).places (many (r s) k) j h in
      both m d (each ps i m d) (many_back r each k (r s ps i).places m j g)
    where
      both : (m : ℕ) → (r s ps i).read ≡ here m → Back r ps i m → Back (λ w. many (r w) k) (r s ps i).places m j
          → Back (λ w. many (r w) (suc k)) ps i j
      both m d a b = record {
        new = a.new ++ b.new;
        added = rw d (b.added ∙ (ap (λ (x : List Place). x ++ b.new) a.added ∙ append_assoc ps a.new b.new));
        onward = omega (arith, a.onward, b.onward);
        puts = λ u l e.
            let one = a.puts u l (same_part e (omega arith) b.onward) in
            let behind_one = same_then (same_part e a.onward (omega arith)) (one.behind j) in
            let two = b.puts (functions_back table u a.new) one.long behind_one in
            rw (functions_append table u a.new b.new) (record {
              long = two.long;
              below = same_then one.below (same_part two.below (omega arith) a.onward);
              behind = λ n. same_then (same_part (one.behind n) b.onward (omega arith)) (two.behind n);
              anew = λ w lw ew.
                  let first = one.anew w lw
                  (same_then (same_part two.below (omega arith) (omega arith)) (same_part ew (omega arith) b.onward)) in
                  let rest = two.anew w lw (same_part ew a.onward (omega arith)) in
                  (rw (first.0, d) rest.0, all_append first.1 rest.1);
            });
      }

  -- ------------------------------------------------------------ one function

  module _ (depth parent : ℕ) (ps : List Place) (i : ℕ) where
    abbrev me : ℕ
    me = length ps

    -- it begins, and is placed
    abbrev begun : Place
    begun = record { start = i; tail = 0; parent = parent }

    module _ (j n t : ℕ) (few : ltb me most_functions ≡ true) (f : Front s i n) (count : count_to s most n ≡ here (n + 4))
        (nested : Back (λ w. many (function w depth me) (int_at s n)) (ps ++ only begun) (n + 4) t)
        (nested_read : (many (function s depth me) (int_at s n) (ps ++ only begun) (n + 4)).read ≡ here t)
        (g : Tail s t j) (fits : j ≤ length s) where
      abbrev inner : List ℕ → Walk
      inner w = many (function w depth me) (int_at s n) (ps ++ only begun) (n + 4)

      abbrev mine : Place
      mine = record { start = i; tail = t; parent = parent }

      abbrev c : ℕ
      c = words_begin s i n f

      abbrev k : ℕ
      k = values_begin s i n f

      -- where its parts stand
      order : (i + 16 ≤ c) × (k + 4 ≤ n) × (n + 4 ≤ t) × (t + 4 ≤ j)
      order = (omega (arith, front_on s i n f), (front_on s i n f).1, nested.onward, omega (arith, tail_on s t j g))

      -- the whole function from its parts
      made : (w : List ℕ) → (head w i then code w then constants w) ≡ here n → count_to w most n ≡ here (n + 4) → int_at w n ≡ int_at s n
          → inner w ≡ inner s → (lines w t then locals w then names w) ≡ here j
          → function w (suc depth) parent ps i ≡ walked (here j) (ps ++ mine ∷ nested.new)
      unfolding function begin nest finish
      made w h₁ h₂ h₃ h₄ h₅ =
          let ended = finished w ps nested.new (inner s).places i parent t nested.added in
          rw (few, h₁, h₂, h₃, h₄, nested_read, h₅) (λ x. walked (here j) (ended x))

      made_s : function s (suc depth) parent ps i ≡ walked (here j) (ps ++ mine ∷ nested.new)
      made_s = made s (front_alike s i n f s refl same_all same_all) count refl refl (tail_alike s t j g s refl same_all)

      -- its own words are put back first
      own_words : (u : List ℕ) → length u ≡ length s → Same s u i j → function_back table u i ≡ code_back table u (c + 4) (int_at s c)
      unfolding function_back
      own_words u l e =
          let (i_c, k_n, n_t, t_j) = order in
          rw (source_alike s i n f u l (same_part e (omega arith) (omega arith)), int_same e c (omega arith) (omega arith))

      -- and then those of the functions nested in it
      then_nested : (u v : List ℕ) → length u ≡ length s → Same s u i j → Coded table u (c + 4) (int_at s c) v
          → Putting (λ w. function w (suc depth) parent) ps i j (mine ∷ nested.new) u (functions_back table v nested.new)
      then_nested u v l e own =
          let (i_c, k_n, n_t, t_j) = order in
          let behind_words : Same s v k j = same_then (same_part e (omega arith) (omega arith)) (own.behind j) in
          let rest = nested.puts v (own.long ∙ l) (same_part behind_words (omega arith) (omega arith)) in
          record {
            long = rest.long;
            below = same_then (same_part own.below (omega arith) (omega arith)) (same_part rest.below (omega arith) (omega arith));
            behind = λ m.
                same_then (same_part (own.behind m) (omega arith) (omega arith)) (same_part (rest.behind m) (omega arith) (omega arith));
            anew = λ w lw ew.
                let front_v : Same v w i (n + 4) =
                same_then (same_part rest.below (omega arith) (omega arith)) (same_part ew (omega arith) (omega arith)) in
                let front_s : Same s v i (c + 4) =
                same_then (same_part e (omega arith) (omega arith)) (same_part own.below (omega arith) (omega arith)) in
                let before : Same s w i (c + 4) = same_then front_s (same_part front_v (omega arith) (omega arith)) in
                let values : Same s w k (n + 4) =
                same_then (same_part behind_words (omega arith) (omega arith)) (same_part front_v (omega arith) (omega arith)) in
                let behind_nested : Same v w t j = same_then (rest.behind j) (same_part ew (omega arith) (omega arith)) in
                let behind : Same s w t j = same_then (same_part behind_words (omega arith) (omega arith)) behind_nested in
                let words : (x : ℕ) → x < int_at s c → int_at w (c + 4 + 4 * x) ≡ word_back table (int_at s (c + 4 + 4 * x)) =
                λ x lt.
                let at_v = int_same front_v (c + 4 + 4 * x) (omega arith) (omega arith) in
                let at_u = int_same e (c + 4 + 4 * x) (omega arith) (omega arith) in
                at_v ∙ (own.words x lt ∙ ap (word_back table) at_u) in
                let (read, all) = rest.anew w lw (same_part ew (omega arith) (omega arith)) in
                let front_w = front_alike s i n f w lw before (same_part values (omega arith) (omega arith)) in
                let count_w = (count_steady most).alike s w n (n + 4) lw count (same_part values (omega arith) (omega arith)) in
                let tail_w = tail_alike s t j g w lw behind in
                let mine_kept = kept table s w i n t j parent f g lw before (same_part values (omega arith) (omega arith)) behind words in
                (made w front_w count_w (int_same values n (omega arith) (omega arith)) read tail_w ∙ sym made_s, one mine_kept all);
          }

      whole_back : Back (λ w. function w (suc depth) parent) ps i j
      unfolding functions_back
      whole_back =
          let (i_c, k_n, n_t, t_j) = order in
          record {
            new = mine ∷ nested.new;
            added = ap (λ (w : Walk). w.places) made_s;
            onward = omega arith;
            puts = λ u l e.
                rw (own_words u l e)
                (then_nested u (code_back table u (c + 4) (int_at s c)) l e (coded table u (c + 4) (int_at s c) (omega arith)));
          }

  -- the nested functions, from their count on
  nest_here : (f : List Place → ℕ → Walk) (ps : List Place) (n t : ℕ) → (nest s f ps n).read ≡ here t
      → (count_to s most n ≡ here (n + 4)) × ((many f (int_at s n) ps (n + 4)).read ≡ here t)
  unfolding nest
  nest_here f ps n t h =
      let (m, d, g) = from_here (count_to s most n) ps (many f (int_at s n)) t h in
      let far : m ≡ n + 4 = count_here s most n m d in
      (rw far at d, rw far at g)

  function_fits : (depth parent : ℕ) (ps : List Place) (i j : ℕ) → (function s depth parent ps i).read ≡ here j → j ≤ length s
  function_fits depth parent ps i j h = rw h at (function_bounded s depth parent ps i)

  function_back_lem : (depth parent : ℕ) → Backs (λ w. function w depth parent)
  unfolding function begin finish
  function_back_lem zero parent ps i j h = never h
  function_back_lem (suc depth) parent ps i j h = either_way (ltb (length ps) most_functions)
      (λ few.
      let f = function s depth (length ps) in
      let before = begin s parent ps i next nest s f in
      let (t, front_read, rest) = from_here before.read before.places (finish s (length ps)) j (rw few at h) in
      let (n, top, inside) = from_here (begin s parent ps i).read (begin s parent ps i).places (nest s f) t front_read in
      let (count, nested) = nest_here f (begin s parent ps i).places n t inside in
      whole_back depth parent ps i j n t few (front s i n top) count
      (many_back (λ w. function w depth (length ps)) (function_back_lem depth (length ps)) (int_at s n) _ (n + 4) t nested)
      nested (tail s t j rest) (function_fits (suc depth) parent ps i j h))
      (λ many. never (rw many at h))

  -- ------------------------------------------------------------ the whole chunk

  walk_alike : (v : List ℕ) (i : ℕ) → length v ≡ length s → signature s header 0 ≡ here i → signature v header 0 ≡ here i
      → function v most_depth 0 [] i ≡ function s most_depth 0 [] i → walk v ≡ walk s
  unfolding walk ends
  walk_alike v i l a b e = rw (at_end, l, a, b, e)
    where
      at_end : ends v ≡ ends s
      at_end = λ x i. cond (ltb i (l x)) (refused 6 i) (here i)

  -- bytes that are walked as s is, and keep its functions
  record Restored (w : List ℕ) : Type 0 where
    walked_same : walk w ≡ walk s
    all : All (Kept table s w) (walk s).places

  main_restored : (i j : ℕ) → ltb most_bytes (length s) ≡ false → signature s header 0 ≡ here i
      → Back (λ w. function w most_depth 0) [] i j → Restored (functions_back table s (walk s).places)
  unfolding walk
  main_restored i j short signed back =
      let places : (walk s).places ≡ back.new = rw (short, signed) back.added in
      let p = back.puts s refl same_all in
      let v = functions_back table s back.new in
      let (read, kept) = p.anew v p.long same_all in
      let signed_v = (signature_steady header).alike s v 0 i p.long signed p.below in
      rw places (record { walked_same = walk_alike v i p.long signed signed_v read; all = rw places kept })

  restored : (e : ℕ) → (walk s).read ≡ here e → Restored (functions_back table s (walk s).places)
  unfolding walk
  restored e h = either_way (ltb most_bytes (length s))
      (λ long. never (rw long at h))
      (λ short.
      let main = walked (signature s header 0) [] next function s most_depth 0 in
      let (j, read, end) = then_here main.read (ends s) e (rw short at h) in
      let (i, signed, main_read) = from_here (signature s header 0) [] (function s most_depth 0) j read in
      main_restored i j short signed (function_back_lem most_depth 0 [] i j main_read))

  -- ------------------------------------------------------------ the chunk put back

  unread : (n p : ℕ) → (walk s).read ≡ refused n p → chunk_back table s ≡ s
  unfolding chunk_back read_back
  unread n p h = rw h

  chunk_restored : (e : ℕ) → (walk s).read ≡ here e → Restored (chunk_back table s)
  unfolding chunk_back read_back
  chunk_restored e h = rw h (restored e h)

  walk_same : (r : Read) → (walk s).read ≡ r → walk (chunk_back table s) ≡ walk s
  walk_same (here e) h = (chunk_restored e h).walked_same
  walk_same (refused n p) h = ap walk (unread n p h)

pub every_chunk : EveryChunk
every_chunk table s = record {
  walk_back = walk_same table s (walk s).read refl;
  proto_back = λ e f h below. proto_same table s (chunk_back table s) (walk s).places (chunk_restored table s e h).all f below;
  constants_back = λ e f h below. constants_same table s (chunk_back table s) (walk s).places (chunk_restored table s e h).all f below;
  unread_back = unread table s;
}
