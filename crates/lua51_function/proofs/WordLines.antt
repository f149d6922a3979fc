-- The word lines of a function are a part of the chunk's bytes, behind the count at its tail. Assumes nothing.
use Prim.Native.Nat.{ℕ, ◌+◌, ◌-◌, ◌*◌, ◌≤◌, ◌<◌}
use native.Mathlib.Omega.{arith}
use mathlib.Core.Bool.{true, false}
use mathlib.Core.List.{List}
use mathlib.Core.Path.{◌≡◌, sym, ◌∙◌}
use lib.Dec.{ltb}
use lib.ListN.{get_or, length, take, drop, length-take, length-drop, get_or-eq_default}
use lib.Seq.{get_or-take, get_or-drop, take_all}
use borrow.Author.Tests.{ltb-true, ltb-false}
use Rattle.basics.proofs.Tests.{either_way}
use Rattle.lua51_deserializer.specs.Chunk.{Place, nowhere, ints, proto_at}
use Rattle.lua51_value.specs.Bytes.{byte_at, int_at}
use Rattle.lua51_value.specs.Constant.{within}
use Rattle.lua51_value.proofs.Ends.{int_past, drop_within}
use Rattle.lua51_function.specs.Function.{line_in, HasLines, lines_of, part}
use Rattle.lua51_function.proofs.Buffers.{ints_length, ints_at}

-- bytes that are too few for the line of word i
pub line_none : (ls : List ℕ) (i : ℕ) → length ls ≤ 4 * i → line_in ls i ≡ 0
line_none ls i h = int_past ls (4 * i) h

-- n lines from place a on
module _ (s : List ℕ) (a n : ℕ) where
  abbrev held : List ℕ
  held = take (4 * n) (drop a s)

  byte_held : (k : ℕ) → k < 4 * n → byte_at held k ≡ byte_at s (a + k)
  byte_held k h = get_or-take (4 * n) (drop a s) k 0 h ∙ get_or-drop a s k 0

  line_held : (i : ℕ) → i < n → line_in held i ≡ int_at s (a + 4 * i)
  unfolding int_at
  line_held i h =
      let b : a + (4 * i + 1) ≡ a + 4 * i + 1 = omega arith in
      let c : a + (4 * i + 2) ≡ a + 4 * i + 2 = omega arith in
      let d : a + (4 * i + 3) ≡ a + 4 * i + 3 = omega arith in
      rw (
        byte_held (4 * i) (omega arith),
        byte_held (4 * i + 1) (omega arith),
        byte_held (4 * i + 2) (omega arith),
        byte_held (4 * i + 3) (omega arith),
        b,
        c,
        d,
      )

  -- the lines are those numbers, and there are no others
  pub lines_held : (i : ℕ) → get_or (ints s a n) i 0 ≡ line_in held i
  lines_held i = either_way (ltb i n)
      (λ t. let h = ltb-true i n t in ints_at s a n i h ∙ sym (line_held i h))
      (λ t. let h : n ≤ i = ltb-false i n t in
      get_or-eq_default (ints s a n) 0 (omega (arith, ints_length s a n))
      ∙ sym (line_none held i (omega (arith, length-take (4 * n) (drop a s)))))

-- the part from one place up to another, which are cut off at the end of the bytes
module _ (s : List ℕ) (a n : ℕ) {from past : ℕ} (f : from ≡ within s a) (p : past ≡ within s (from + n)) where
  pub part_held : part s from past ≡ take n (drop a s)
  part_held = either_way (ltb (from + n) (length s)) inner outer
    where
      same : drop from s ≡ drop a s
      same = rw f (drop_within s a)

      inner : ltb (from + n) (length s) ≡ true → part s from past ≡ take n (drop a s)
      inner t = let e : past - from ≡ n = omega (arith, rw t at p) in rw (e, same)

      outer : ltb (from + n) (length s) ≡ false → part s from past ≡ take n (drop a s)
      outer t =
          let e : past - from ≡ length s - from = omega (arith, rw t at p) in
          rw (e, ← same)
          (take_all (length s - from) (drop from s) (omega (arith, length-drop from s))
          ∙ sym (take_all n (drop from s) (omega (arith, length-drop from s, ltb-false (from + n) (length s) t))))

within_most : (s : List ℕ) (i : ℕ) → within s i ≤ length s
within_most s i = either_way (ltb i (length s)) (λ t. rw t (omega (arith, ltb-true i (length s) t))) (λ t. rw t (omega arith))

within_least : (s : List ℕ) (i k : ℕ) → i ≤ length s → i ≤ within s (i + k)
within_least s i k h = either_way (ltb (i + k) (length s)) (λ t. rw t (omega arith)) (λ t. rw t h)

-- the bytes of a function's word lines have its lines
pub has_lines : (s : List ℕ) (ps : List Place) (f : ℕ) → HasLines (proto_at s ps f) (lines_of s (get_or ps f nowhere).tail)
unfolding proto_at
has_lines s ps f i = let at = (get_or ps f nowhere).tail in lines_held s (at + 4) (int_at s at) i

-- the part from behind their count up to the end of the lines, each place cut off at the end of the bytes
module _ (s : List ℕ) (ps : List Place) (f : ℕ) {tail count from past : ℕ} (t : tail ≡ (get_or ps f nowhere).tail)
    (c : count ≡ length (proto_at s ps f).lines) (a : from ≡ within s (tail + 4)) (b : past ≡ within s (from + 4 * count)) where
  pub lines_inside : past ≤ length s
  lines_inside = rw b (within_most s (from + 4 * count))

  pub lines_from : from ≤ past
  lines_from = rw b (within_least s from (4 * count) (rw a (within_most s (tail + 4))))

  -- it is the bytes of the word lines
  pub lines_bytes : part s from past ≡ lines_of s (get_or ps f nowhere).tail
  unfolding proto_at
  lines_bytes =
      let at = (get_or ps f nowhere).tail in
      let n : count ≡ int_at s at = c ∙ ints_length s (at + 4) (int_at s at) in
      rw (part_held s (tail + 4) (4 * count) a b, t, n)

  -- and so it has the lines
  pub lines_part : HasLines (proto_at s ps f) (part s from past)
  lines_part = rw lines_bytes (has_lines s ps f)
