-- Bytes that are not refused are the lines of a permutation. Assumes nothing.
use Prim.Native.Nat.{ℕ, zero, suc, ◌+◌, ◌*◌, ◌<◌, ◌≤◌}
use native.Mathlib.Omega.{arith}
use mathlib.Core.Bool.{not, ◌||◌, false}
use mathlib.Core.Path.{◌≡◌, refl, sym, ap, ◌∙◌}
use mathlib.Core.List.{List, [], ◌∷◌, ◌++◌, flat_map}
use lib.Dec.{ltb, eqb}
use lib.ListN.{length, get_or, take, drop, take-append-drop, drop_of_length-le}
use lib.Seq.{get_or-take, drop-drop, length-take-le}
use borrow.Author.Tests.{ltb-false, eqb-true, eq-eqb}
use Rattle.lines.specs.Numeral.{Numeral, number, other_form, line_length, number_line}
use Rattle.lines.proofs.ReadBack.{reads_back}
use Rattle.basics.specs.Range.{only, over, times}
use Rattle.basics.proofs.Tests.{clash, not_not, or_left, or_right}
use Rattle.basics.proofs.Range.{over_same}
use Rattle.basics.proofs.Tables.{table_length as filled_length, table_at as filled_at}
use Rattle.house_table.specs.House.{opcode_count, highest_opcode, Permutation}
use Rattle.lua51_lifter.specs.Check.{Verdict, fine, ◌else◌, refuse_if, first_refusal}
use Rattle.lua51_lifter.proofs.Verdicts.{else_first, else_then, refused_not, first_all}
use Rattle.house_loading.specs.Loading.{table_length, table_line, says_none, number_said, table_of, repeated, form_verdict}
use Rattle.house_loading.specs.Loading.{number_verdict, load_verdict, OnlyPermutations}
use Rattle.house_loading.specs.TableVerdict.{in_byte, table_bytes}

-- ------------------------------------------------------------ lines and lists

-- a line that says a number
says : (n : Numeral) → says_none n ≡ false → n ≡ number (number_said n)
says (number x) h = refl
says other_form h = clash refl h

-- a number that stands in a list stands there once at least
pub times_at : (xs : List ℕ) (i : ℕ) → i < length xs → 1 ≤ times (get_or xs i 0) xs
unfolding times
times_at [] i lt = absurd (omega arith)
times_at (x ∷ xs) zero lt = rw (eq-eqb x x refl) (omega arith)
times_at (x ∷ xs) (suc i) lt = omega (arith, times_at xs i (omega arith))

pub repeated_at : (xs : List ℕ) (j i : ℕ) → j < i → i ≤ length xs → 1 ≤ times (get_or xs j 0) (take i xs)
repeated_at xs j i l h =
    rw (get_or-take i xs j 0 l) at (times_at (take i xs) j (omega (arith, length-take-le i xs h)))

pub numbers_long : (s : List ℕ) → length (table_of s) ≡ opcode_count
numbers_long s = filled_length (λ i. number_said (table_line s i)) opcode_count

-- ------------------------------------------------------------ a load that is not refused

module _ (s : List ℕ) (ok : load_verdict s ≡ fine) where
  abbrev of_forms : Verdict
  of_forms = first_refusal (form_verdict s) 0 opcode_count

  abbrev of_numbers : Verdict
  of_numbers = first_refusal (number_verdict (table_of s)) 0 opcode_count

  long : length s ≡ table_length
  unfolding load_verdict
  long =
      let right = refused_not (not (eqb (length s) table_length)) 34 0 (else_first (refuse_if (not (eqb (length s) table_length)) 34 0) (of_forms else of_numbers) ok) in
      eqb-true (length s) table_length (not_not (eqb (length s) table_length) right)

  behind_length : of_forms else of_numbers ≡ fine
  unfolding load_verdict
  behind_length = else_then (refuse_if (not (eqb (length s) table_length)) 34 0) (of_forms else of_numbers) ok

  line_is : (i : ℕ) → i < opcode_count → take line_length (drop (line_length * i) s) ≡ number_line (number_said (table_line s i))
  unfolding form_verdict
  line_is i lt =
      let form = first_all (form_verdict s) opcode_count (else_first of_forms of_numbers behind_length) i lt in
      let line = says (table_line s i) (refused_not (says_none (table_line s i)) 34 i form) in
      (reads_back.line_only s (line_length * i) (number_said (table_line s i)) line).1

  number_right : (i : ℕ) → i < opcode_count → ltb highest_opcode (get_or (table_of s) i 0) || repeated (table_of s) i ≡ false
  unfolding number_verdict
  number_right i lt =
      let all = first_all (number_verdict (table_of s)) opcode_count (else_then of_forms of_numbers behind_length) in
      refused_not (ltb highest_opcode (get_or (table_of s) i 0) || repeated (table_of s) i) 35 i (all i lt)

  number_small : (i : ℕ) → i < opcode_count → get_or (table_of s) i 0 < opcode_count
  number_small i lt =
      omega (arith, ltb-false highest_opcode (get_or (table_of s) i 0) (or_left (ltb highest_opcode (get_or (table_of s) i 0)) (repeated (table_of s) i) (number_right i lt)))

  permuted : Permutation (table_of s)
  permuted = record {
    long = numbers_long s;
    small = number_small;
    once = λ i j l lt e.
        let xs = table_of s in
        let none = ltb-false 0 (times (get_or xs j 0) (take j xs)) (or_right (ltb highest_opcode (get_or xs j 0)) (repeated xs j) (number_right j lt)) in
        let some = repeated_at xs i j l (omega (arith, numbers_long s)) in
        omega (arith, rw e at some);
  }

  -- the lines from i on, k of them, are the rest of the bytes
  lines_from : (i k : ℕ) → i + k ≡ opcode_count
      → drop (line_length * i) s ≡ flat_map number_line (over (λ i. only (number_said (table_line s i))) i k)
  unfolding over flat_map
  lines_from i zero e =
      let all : length s ≤ line_length * i = omega (arith, long) in
      drop_of_length-le s all
  lines_from i (suc k) e =
      let here = drop (line_length * i) s in
      let behind = flat_map number_line (over (λ i. only (number_said (table_line s i))) (i + 1) k) in
      let next : line_length * i + line_length ≡ line_length * (i + 1) = omega arith in
      let rest : drop line_length here ≡ behind = drop-drop line_length (line_length * i) s ∙ rw next (lines_from (i + 1) k (omega arith)) in
      sym (take-append-drop line_length here)
      ∙ (ap {B = List ℕ} (λ (x : List ℕ). x ++ drop line_length here) (line_is i (omega arith))
      ∙ ap {B = List ℕ} (λ (x : List ℕ). number_line (number_said (table_line s i)) ++ x) rest)

  -- and the bytes that hold its numbers are these numbers
  pub numbers_loaded : table_bytes s ≡ table_of s
  numbers_loaded =
      over_same (λ i. in_byte (number_said (table_line s i))) (λ i. number_said (table_line s i)) 0 opcode_count
      (λ i lt.
      let z : 0 + i ≡ i = omega arith in
      rw z (omega (arith, number_small i lt, filled_at (λ i. number_said (table_line s i)) opcode_count i lt)))

pub only_permutations : OnlyPermutations
only_permutations s ok = record { permutation = permuted s ok; printed = lines_from s ok 0 opcode_count refl }
