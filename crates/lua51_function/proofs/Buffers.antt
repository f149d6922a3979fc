-- Laws of filling a buffer from the front, and of the lists of a function that buffers are filled with. Assumes nothing.
use mathlib.Core.List.{List, [], ◌∷◌, ◌++◌, map, map-map, append-nil}
use mathlib.Core.Path.{◌≡◌, refl, sym, ◌∙◌, ap}
use Prim.Native.Nat.{ℕ, zero, suc, ◌+◌, ◌-◌, ◌*◌, ◌≤◌, ◌<◌, min}
use native.Mathlib.Numerals.{add-one}
use native.Mathlib.Omega.{arith}
use borrow.Author.Tests.{lt-ltb, le-ltb, lt-leb, eq-eqb, ne_eqb, ltb-false}
use lib.Dec.{ltb}
use lib.ListN.{length, get_or, take, drop, set, length-append, length-take, length-drop, drop_of_length-le, get_or-eq_default}
use lib.Seq.{drop-cons, drop-drop, get_or-drop, take-suc, set_at, length-take-le, append_snoc}
use Rattle.lua51_deserializer.specs.Chunk.{Place, nowhere, ints, offset, constant, values_at, nested_in, words_of, constants_of, constants_at, proto_at}
use Rattle.lua51_value.specs.Bytes.{byte_at, int_at}
use Rattle.lua51_value.specs.Value.{value_at, kind_of}
use Rattle.lua51_value.specs.Constant.{within}
use Rattle.lua51_deserializer.specs.Walked.{place_at}
use Rattle.lua51_function.specs.Function.{held_count, held_of, places_from, Filled, kind_at, constant_places}
use Rattle.lua51_deserializer.specs.declared.chunk.Functions.{Functions}
use Rattle.basics.proofs.Tests.{either_way}
use Rattle.lua51_value.proofs.Ends.{byte_past, byte_within, int_within, cut_off}
use Rattle.basics.proofs.Range.{over_length, over_at}

-- ------------------------------------------------------------ places cut off at the end of the bytes

module _ (s : List ℕ) (i k : ℕ) where
  pub within_after : within s (within s i + k) ≡ within s (i + k)
  within_after = either_way (ltb i (length s))
      (λ t. rw t)
      (λ t. rw (t, le-ltb (length s + k) (length s) (omega arith), le-ltb (i + k) (length s) (omega (arith, ltb-false i (length s) t))))

  pub byte_after : byte_at s (within s i + k) ≡ byte_at s (i + k)
  byte_after = sym (byte_within s (within s i + k)) ∙ (ap (byte_at s) within_after ∙ byte_within s (i + k))

  pub int_after : int_at s (within s i + k) ≡ int_at s (i + k)
  int_after = sym (int_within s (within s i + k)) ∙ (ap (int_at s) within_after ∙ int_within s (i + k))

-- ------------------------------------------------------------ filling from the front

-- a list whose first n are those of another is as long as it was
front_length : (n : ℕ) (xs before : List ℕ) → n ≤ length xs → n ≤ length before → length (take n xs ++ drop n before) ≡ length before
front_length n xs before h k = simp (length-append, length-take, length-drop) (omega arith)

pub filled_length : {n : ℕ} {xs before after : List ℕ} → Filled n (length before) xs before after → length after ≡ length before
filled_length {n} {xs} {before} h = rw h.content (front_length n xs before (omega arith) (omega arith))

-- a buffer that held `before` holds the first n of xs in front; the rest of xs is to come
pub record Filling (n : ℕ) (xs rest before held : List ℕ) : Type 0 where
  pub inside : n ≤ length xs
  pub room : n ≤ length before
  pub left : drop n xs ≡ rest
  pub content : held ≡ take n xs ++ drop n before

pub filling_none : (xs before : List ℕ) → Filling 0 xs xs before before
filling_none xs before = record { inside = omega arith; room = omega arith; left = refl; content = refl }

module _ {n : ℕ} {xs rest before held : List ℕ} (f : Filling n xs rest before held) where
  pub filling_length : length held ≡ length before
  filling_length = rw f.content (front_length n xs before f.inside f.room)

  -- the rest in other words
  pub filling_as : {other : List ℕ} → rest ≡ other → Filling n xs other before held
  filling_as e = record { inside = f.inside; room = f.room; left = f.left ∙ e; content = f.content }

  pub filled_count : (room : ℕ) → n ≡ min (length xs) room → Filled n room xs before held
  filled_count room h =
      let inside : n ≤ length held = omega (arith, filling_length) in
      record { count = h; content = f.content; inside = inside; front = sym (length-take-le n held inside) }

  -- no room is left, or nothing is to come
  pub filled_full : (room : ℕ) → n ≡ room → Filled n room xs before held
  filled_full room e = filled_count room (omega arith)

  pub filled_all : (room : ℕ) → n ≤ room → rest ≡ [] → Filled n room xs before held
  filled_all room h e =
      let whole : length xs ≡ n = omega (arith, length-drop n xs, ap length (f.left ∙ e)) in
      filled_count room (omega arith)

-- the front of a buffer is filled, and so is the buffer as far
pub filling_front : {m n : ℕ} {xs rest before front : List ℕ} → Filling m xs rest (take n before) front → m ≡ n → n ≤ length before
    → Filling n xs rest before (front ++ drop n before)
filling_front {m} {n} {xs} {rest} {before} {front} f e h =
    let none : drop n (take n before) ≡ [] = drop_of_length-le (take n before) (omega (arith, length-take n before)) in
    record { inside = omega (arith, f.inside); room = h; left = rw e at f.left; content = rw (f.content, e, none) (rw append-nil refl) }

-- a list from n on: its n-th element, and what follows it
module _ (xs : List ℕ) (n : ℕ) {y : ℕ} {ys : List ℕ} (e : drop n xs ≡ y ∷ ys) where
  pub drop_first : get_or xs n 0 ≡ y
  drop_first =
      let z : n + 0 ≡ n = omega arith in
      rw z at (sym (get_or-drop n xs 0 0) ∙ ap (λ (l : List ℕ). get_or l 0 0) e)

  pub drop_next : drop (n + 1) xs ≡ ys
  drop_next = sym (drop-drop 1 n xs) ∙ ap (drop 1) e

-- one element more
pub filling_more : {n y : ℕ} {xs ys before held : List ℕ} (v : ℕ) → Filling n xs (y ∷ ys) before held → v ≡ y → n < length before
    → Filling (n + 1) xs ys before (set held n v)
filling_more {n} {y} {xs} {ys} {before} {held} v f e h =
    let inside : n < length xs = omega (arith, length-drop n xs, ap length f.left) in
    let first : v ≡ get_or xs n 0 = e ∙ sym (drop_first xs n f.left) in
    record {
      inside = omega arith;
      room = omega arith;
      left = drop_next xs n f.left;
      content = rw (f.content, first, drop-cons before n 0 h, add-one n, take-suc xs n 0 inside)
          (set_at (take n xs) (get_or before n 0) (drop (suc n) before) (get_or xs n 0) n (length-take-le n xs (omega arith))
          ∙ sym (append_snoc (take n xs) (get_or xs n 0) (drop (suc n) before)));
    }

-- ------------------------------------------------------------ words

pub map_at : {A : Type 0} (f : ℕ → A) (xs : List ℕ) (i : ℕ) (d : A) → i < length xs → get_or (map f xs) i d ≡ f (get_or xs i 0)
map_at f [] i d h = absurd (omega arith)
map_at f (x ∷ xs) zero d h = refl
map_at f (x ∷ xs) (suc i) d h = map_at f xs i d (omega arith)

module _ (s : List ℕ) (i n : ℕ) where
  pub ints_length : length (ints s i n) ≡ n
  unfolding ints
  ints_length = over_length (λ k. int_at s (i + 4 * k)) 0 n

  pub ints_at : (k : ℕ) → k < n → get_or (ints s i n) k 0 ≡ int_at s (i + 4 * k)
  unfolding ints
  ints_at k h = over_at (λ k. int_at s (i + 4 * k)) 0 n k 0 h ∙ ap (λ (m : ℕ). int_at s (i + 4 * m)) (omega arith)

-- the k-th word, behind the count of words at w: the places cut off at the end of the bytes change nothing
pub word_at : (s : List ℕ) (w n k : ℕ) {at first place v : ℕ} → k < n
    → at ≡ within s w → first ≡ within s (at + 4) → place ≡ within s (first + 4 * k) → v ≡ int_at s place → v ≡ get_or (ints s (w + 4) n) k 0
word_at s w n k h a f p e =
    let first : within s (within s w + 4) ≡ within s (w + 4) = within_after s w 4 in
    rw (e, p, f, a, first) (int_within s (within s (w + 4) + 4 * k) ∙ (int_after s (w + 4) (4 * k) ∙ sym (ints_at s (w + 4) n k h)))

-- ------------------------------------------------------------ constants

pub places_count : (s : List ℕ) (i n : ℕ) → length (places_from s i n) ≡ n
unfolding places_from
places_count s i zero = refl
places_count s i (suc n) = ap suc (places_count s (offset (constant s i)) n)

-- the next of n places, the i-th
pub places_turn : (s : List ℕ) (at n i : ℕ) → i < n → places_from s at (n - i) ≡ at ∷ places_from s (offset (constant s at)) (n - (i + 1))
unfolding places_from
places_turn s at n i h = let d : n - i ≡ suc (n - (i + 1)) = omega arith in rw d

values_places : (s : List ℕ) (i n : ℕ) → values_at s i n ≡ map (value_at s) (places_from s i n)
unfolding values_at places_from
values_places s i zero = refl
values_places s i (suc n) = let rest = values_places s (offset (constant s i)) n in λ j. value_at s i ∷ rest j

module _ (s : List ℕ) (i : ℕ) where
  value_within : value_at s (within s i) ≡ value_at s i
  unfolding value_at
  value_within = cut_off s i (value_at s) (value_at s (length s)) (λ j h. rw (byte_past s j h, byte_past s (length s) (omega arith)))

  behind_within : offset (constant s (within s i)) ≡ offset (constant s i)
  unfolding constant
  behind_within = cut_off s i (λ j. offset (constant s j)) (offset (constant s (length s))) (λ j h. rw (lt-leb (j + 1) (length s) (omega arith), lt-leb (length s + 1) (length s) (omega arith)))

  pub values_are : (n : ℕ) → values_at s i n ≡ map (value_at s) (places_from s (within s i) n)
  unfolding values_at places_from
  values_are zero = refl
  values_are (suc n) = rw (value_within, behind_within) (values_places s i (suc n))

-- ------------------------------------------------------------ nested functions

module _ (f : ℕ → Place → ℕ) (me : ℕ) where
  -- main is nested in none
  pub nested_start : (ps : List Place) → nested_in f me 0 ps ≡ nested_in f me 1 (drop 1 ps)
  unfolding nested_in
  nested_start [] = refl
  nested_start (p ∷ ps) = refl

  module _ (ps : List Place) (k : ℕ) where
    split_off : k < length ps → nested_in f me k (drop k ps) ≡ nested_in f me k (get_or ps k nowhere ∷ drop (k + 1) ps)
    split_off h = rw (add-one k, drop-cons ps k nowhere h)

    pub nested_found : 0 < k → k < length ps → (get_or ps k nowhere).parent ≡ me → nested_in f me k (drop k ps) ≡ f k (get_or ps k nowhere) ∷ nested_in f me (k + 1) (drop (k + 1) ps)
    unfolding nested_in
    nested_found z h e = split_off h ∙ rw (lt-ltb 0 k z, eq-eqb _ _ e)

    pub nested_other : k < length ps → ((get_or ps k nowhere).parent ≡ me → ⊥) → nested_in f me k (drop k ps) ≡ nested_in f me (k + 1) (drop (k + 1) ps)
    unfolding nested_in
    nested_other h e = split_off h ∙ either_way (ltb 0 k) (λ t. rw (t, ne_eqb _ _ e)) (λ t. rw t)

    pub nested_none : length ps ≤ k → nested_in f me k (drop k ps) ≡ []
    unfolding nested_in
    nested_none h = rw (drop_of_length-le ps h)

-- ------------------------------------------------------------ the table of functions

module _ (t : Functions) where
  pub held_length : length (held_of t) ≡ held_count t
  held_length = over_length (place_at t.starts t.tails t.parents) 0 (held_count t)

  pub held_at : (f : ℕ) → f < held_count t → get_or (held_of t) f nowhere ≡ place_at t.starts t.tails t.parents f
  held_at f h =
      let z : 0 + f ≡ f = omega arith in
      rw z at (over_at (place_at t.starts t.tails t.parents) 0 (held_count t) f nowhere h)

  pub held_none : (f : ℕ) → held_count t ≤ f → get_or (held_of t) f nowhere ≡ nowhere
  held_none f h = get_or-eq_default (held_of t) nowhere (omega (arith, held_length))

-- ------------------------------------------------------------ a whole function

module _ (s : List ℕ) (ps : List Place) (f : ℕ) where
  module _ {start : ℕ} (place : start ≡ (get_or ps f nowhere).start) where
    pub loads_words : (back : ℕ → ℕ) (n : ℕ) {ws ws' : List ℕ} → Filled n (length ws) (map back (ints s (words_of s start + 4) (int_at s (words_of s start)))) ws ws'
        → Filled n (length ws) (map back (proto_at s ps f).words) ws ws'
    unfolding proto_at
    loads_words back n h = rw place at h

    -- the places of its constants, whose count stands at `at`: cutting places off at the end of the bytes changes nothing
    pub loads_places : {at first n : ℕ} → at ≡ within s (constants_of s start) → first ≡ within s (at + 4) → n ≡ int_at s at → places_from s first n ≡ constant_places s ps f
    loads_places a b c =
        let k = constants_of s start in
        rw (c, b, a, within_after s k 4, int_within s k, place)

  pub loads_kinds : (n room : ℕ) {places ks ks' : List ℕ} → places ≡ constant_places s ps f → Filled n room (map (kind_at s) places) ks ks' → Filled n room (proto_at s ps f).kinds ks ks'
  unfolding proto_at constants_at
  loads_kinds n room e h =
      let k = constants_of s (get_or ps f nowhere).start in
      rw (values_are s (k + 4) (int_at s k), map-map kind_of (value_at s)) (rw e at h)
