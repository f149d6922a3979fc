-- Laws of the walk over functions: a loop over nested functions, the cases of a function, and the whole chunk.
-- Assumes nothing.
use mathlib.Core.Path.{◌≡◌, sym, ◌∙◌, ap}
use mathlib.Core.List.{List, []}
use Prim.Native.Nat.{ℕ, suc, ◌+◌, ◌-◌, ◌≤◌, ◌<◌}
use native.Mathlib.Omega.{arith}
use borrow.Author.Tests.{lt-ltb, le-ltb}
use lib.ListN.{length}
use Rattle.lua51_deserializer.specs.Chunk.{Read, here, refused, ◌then◌, count_to, Place, Walk, walked}
use Rattle.lua51_value.specs.Bytes.{int_at}
use Rattle.lua51_deserializer.specs.Chunk.{◌next◌, many, begin, nest, finish, function, header, signature, ends}
use Rattle.lua51_deserializer.specs.Chunk.{walk, most}

-- ------------------------------------------------------------ a loop over nested functions

module _ (f : List Place → ℕ → Walk) (n : ℕ) where
  -- one turn of a loop of n turns, the i-th, from j on
  pub many_next : (i : ℕ) (ps : List Place) (j : ℕ) → i < n → many f (n - i) ps j ≡ (f ps j next many f (n - (i + 1)))
  unfolding many
  many_next i ps j h = let d : n - i ≡ suc (n - (i + 1)) = omega arith in rw d

  pub many_turn : (i : ℕ) (ps qs : List Place) (j k : ℕ) → i < n → walked (here k) qs ≡ f ps j → many f (n - (i + 1)) qs k ≡ many f (n - i) ps j
  many_turn i ps qs j k h e = sym (many_next i ps j h ∙ rw (sym e))

  pub many_stops : (i : ℕ) (ps qs : List Place) (j : ℕ) {m p : ℕ} → i < n → walked (refused m p) qs ≡ f ps j → walked (refused m p) qs ≡ many f (n - i) ps j
  many_stops i ps qs j h e = sym (many_next i ps j h ∙ rw (sym e))

  pub many_none : (i : ℕ) (ps : List Place) (j : ℕ) → n ≤ i → walked (here j) ps ≡ many f (n - i) ps j
  unfolding many
  many_none i ps j h = let d : n - i ≡ 0 = omega arith in rw d

-- ------------------------------------------------------------ a function

module _ (s : List ℕ) (depth parent : ℕ) (ps : List Place) (i : ℕ) where
  pub function_deep : depth ≡ 0 → walked (refused 5 i) ps ≡ function s depth parent ps i
  unfolding function
  function_deep h = sym (ap (λ (d : ℕ). function s d parent ps i) h)

  module _ (deep : depth ≡ 0 → ⊥) where
    levels : function s depth parent ps i ≡ function s (suc (depth - 1)) parent ps i
    levels = let h : depth ≡ suc (depth - 1) = omega arith in ap (λ (d : ℕ). function s d parent ps i) h

    pub function_full : 256 ≤ length ps → walked (refused 5 i) ps ≡ function s depth parent ps i
    unfolding function
    function_full h = sym (levels ∙ rw (le-ltb (length ps) 256 h))

    -- function `me`: what it begins with, up to the count of its nested functions at j; those; and what it ends with
    module _ (me : ℕ) (number : length ps ≡ me) (few : me < 256) where
      function_in_turn : function s depth parent ps i ≡ (begin s parent ps i next nest s (function s (depth - 1) me) next finish s me)
      unfolding function
      function_in_turn = levels ∙ rw (number, lt-ltb me 256 few)

      pub function_unbegun : {qs : List Place} {n p : ℕ} → walked (refused n p) qs ≡ begin s parent ps i
          → walked (refused n p) qs ≡ function s depth parent ps i
      function_unbegun b = sym (function_in_turn ∙ rw (← b))

      module _ (qs : List Place) (j : ℕ) (begun : walked (here j) qs ≡ begin s parent ps i) where
        nested : function s depth parent ps i ≡ (walked (count_to s most j) qs next many (function s (depth - 1) me) (int_at s j) next finish s me)
        unfolding nest
        nested = function_in_turn ∙ rw (← begun)

        pub function_uncounted : {n p : ℕ} → refused n p ≡ count_to s most j → walked (refused n p) qs ≡ function s depth parent ps i
        function_uncounted e = sym (nested ∙ rw (← e))

        module _ (k n : ℕ) (counted : here k ≡ count_to s most j) (children : n ≡ int_at s j) where
          pub function_stops : {rs : List Place} {m p : ℕ} → walked (refused m p) rs ≡ many (function s (depth - 1) me) n qs k
              → walked (refused m p) rs ≡ function s depth parent ps i
          function_stops e = sym (nested ∙ rw (← counted, ← children, ← e))

          pub function_ends : (rs : List Place) (l : ℕ) (w : Walk) → walked (here l) rs ≡ many (function s (depth - 1) me) n qs k
              → w ≡ finish s me rs l → w ≡ function s depth parent ps i
          function_ends rs l w e f = f ∙ sym (nested ∙ rw (← counted, ← children, ← e))

-- ------------------------------------------------------------ the whole chunk

module _ (s : List ℕ) where
  pub walk_long : 65536 < length s → walked (refused 1 0) [] ≡ walk s
  unfolding walk
  walk_long h = sym (rw (lt-ltb 65536 (length s) h))

  module _ (short : length s ≤ 65536) where
    walk_in_turn : walk s ≡ (let w = walked (signature s header 0) [] next function s 32 0 in walked (w.read then ends s) w.places)
    unfolding walk
    walk_in_turn = rw (le-ltb 65536 (length s) short)

    pub walk_unsigned : {n p : ℕ} → refused n p ≡ signature s header 0 → walked (refused n p) [] ≡ walk s
    walk_unsigned e = sym (walk_in_turn ∙ rw (← e))

    module _ (i : ℕ) (signed : here i ≡ signature s header 0) where
      pub walk_stops : {qs : List Place} {n p : ℕ} → walked (refused n p) qs ≡ function s 32 0 [] i → walked (refused n p) qs ≡ walk s
      walk_stops e = sym (walk_in_turn ∙ rw (← signed, ← e))

      pub walk_whole : (qs : List Place) (j : ℕ) (r : Read) → walked (here j) qs ≡ function s 32 0 [] i → r ≡ ends s j → walked r qs ≡ walk s
      walk_whole qs j r e d = rw d (sym (walk_in_turn ∙ rw (← signed, ← e)))
