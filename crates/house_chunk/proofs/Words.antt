-- Words put back in their bytes: the bytes around them stay, and each word is put back. Assumes nothing.
use mathlib.Core.Path.{◌≡◌, refl, ap, ◌∙◌}
use mathlib.Core.List.{List, map, ◌∷◌}
use Prim.Native.Nat.{ℕ, zero, suc, ◌+◌, ◌*◌, ◌<◌, ◌≤◌}
use native.Mathlib.Omega.{arith}
use lib.ListN.{length, set, length-set}
use lib.Seq.{get_or-set_same, get_or-set_other}
use Rattle.basics.specs.Range.{over, only}
use Rattle.lua51_instruction.specs.Word.{field_opcode}
use Rattle.lua51_value.specs.Bytes.{byte_at, int_at}
use Rattle.lua51_deserializer.specs.Chunk.{ints}
use Rattle.house_table.specs.House.{word_back}
use Rattle.house_chunk.specs.PutBack.{code_back}
use Rattle.basics.proofs.Range.{over_same}
use Rattle.house_chunk.proofs.Steady.{Same, same_part, same_then, same_all, int_same}

-- ------------------------------------------------------------ lists of words

over_map : (f g : ℕ → ℕ) (from n : ℕ) → over (λ k. only (f (g k))) from n ≡ map f (over (λ k. only (g k)) from n)
unfolding over
over_map f g from zero = refl
over_map f g from (suc n) = λ i. f (g from) ∷ over_map f g (from + 1) n i

-- numbers each of which is what f makes of another
pub ints_map : (f : ℕ → ℕ) (s v : List ℕ) (i n : ℕ) → ((k : ℕ) → k < n → int_at v (i + 4 * k) ≡ f (int_at s (i + 4 * k)))
    → ints v i n ≡ map f (ints s i n)
unfolding ints
ints_map f s v i n h =
    over_same (λ k. int_at v (i + 4 * k)) (λ k. f (int_at s (i + 4 * k))) 0 n (λ k lt. h (0 + k) (omega arith))
    ∙ over_map f (λ k. int_at s (i + 4 * k)) 0 n

-- ------------------------------------------------------------ one word

module _ (table : List ℕ) where
  -- an opcode stands in the lowest byte of its word
  low_byte : (b r : ℕ) → word_back table b + 256 * r ≡ word_back table (b + 256 * r)
  unfolding word_back
  low_byte b r = let e : field_opcode (b + 256 * r) ≡ field_opcode b = omega arith in rw e (omega arith)

  -- the bytes s with the word at i put back
  abbrev put : List ℕ → ℕ → List ℕ
  put s i = set s i (word_back table (byte_at s i))

  put_other : (s : List ℕ) (i k : ℕ) → (k ≡ i → ⊥) → byte_at (put s i) k ≡ byte_at s k
  put_other s i k h = get_or-set_other s i k (word_back table (byte_at s i)) 0 h

  put_below : (s : List ℕ) (i : ℕ) → Same s (put s i) 0 i
  put_below s i = record { byte = λ k l g. put_other s i k (λ e. omega arith) }

  put_behind : (s : List ℕ) (i m : ℕ) → Same s (put s i) (i + 4) m
  put_behind s i m = record { byte = λ k l g. put_other s i k (λ e. omega arith) }

  put_word : (s : List ℕ) (i : ℕ) → i < length s → int_at (put s i) i ≡ word_back table (int_at s i)
  unfolding int_at
  put_word s i lt =
      let other : (k : ℕ) → 1 ≤ k → byte_at (put s i) (i + k) ≡ byte_at s (i + k) = λ k h. put_other s i (i + k) (λ e. omega arith) in
      rw (get_or-set_same s i (word_back table (byte_at s i)) 0 lt, other 1 (omega arith), other 2 (omega arith), other 3 (omega arith))
      (low_byte (byte_at s i) (byte_at s (i + 1) + 256 * (byte_at s (i + 2) + 256 * byte_at s (i + 3))))

  -- ------------------------------------------------------------ the words from i on, n of them

  pub record Coded (s : List ℕ) (i n : ℕ) (v : List ℕ) : Type 0 where
    pub long : length v ≡ length s
    pub below : Same s v 0 i
    pub behind : (m : ℕ) → Same s v (i + 4 * n) m
    pub words : (k : ℕ) → k < n → int_at v (i + 4 * k) ≡ word_back table (int_at s (i + 4 * k))

  coded_next : (s v : List ℕ) (i n : ℕ) → i < length s → Coded (put s i) (i + 4) n v → Coded s i (suc n) v
  coded_next s v i n lt c = record {
    long = c.long ∙ length-set s i (word_back table (byte_at s i));
    below = same_then (put_below s i) (same_part c.below (omega arith) (omega arith));
    behind = λ m.
        same_then (same_part (put_behind s i m) (omega arith) (omega arith)) (same_part (c.behind m) (omega arith) (omega arith));
    words = each;
  }
    where
      each : (k : ℕ) → k < suc n → int_at v (i + 4 * k) ≡ word_back table (int_at s (i + 4 * k))
      each zero l =
          let z : i + 4 * 0 ≡ i = omega arith in
          rw z (int_same c.below i (omega arith) (omega arith) ∙ put_word s i lt)
      each (suc k) l =
          let z : i + 4 * suc k ≡ i + 4 + 4 * k = omega arith in
          let same = int_same (put_behind s i (i + 4 + 4 * k + 4)) (i + 4 + 4 * k) (omega arith) (omega arith) in
          rw z (c.words k (omega arith) ∙ ap (word_back table) same)

  pub coded : (s : List ℕ) (i n : ℕ) → i + 4 * n ≤ length s → Coded s i n (code_back table s i n)
  unfolding code_back
  coded s i zero le = record { long = refl; below = same_all; behind = λ m. same_all; words = λ k lt. absurd (omega arith) }
  coded s i (suc n) le =
      coded_next s (code_back table (put s i) (i + 4) n) i n (omega arith)
      (coded (put s i) (i + 4) n (omega (arith, length-set s i (word_back table (byte_at s i)))))
