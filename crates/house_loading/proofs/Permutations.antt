-- The lines of every permutation are not refused, and give it. Assumes nothing.
use Prim.Native.Nat.{ℕ, zero, suc, ◌+◌, ◌*◌, ◌<◌}
use native.Mathlib.Omega.{arith}
use mathlib.Core.Path.{◌≡◌, refl, sym, ap, subst, ◌∙◌}
use mathlib.Core.List.{List, [], ◌∷◌, flat_map}
use lib.ListN.{length, get_or, take, drop, length-append}
use lib.Seq.{ext_get_or, get_or-take, take_at, drop-append-add, length-take-le}
use borrow.Author.Tests.{le-ltb, ne_eqb}
use Rattle.lines.specs.Line.{line_feed, column}
use Rattle.lines.specs.Numeral.{number, line_length, number_line}
use Rattle.lines.proofs.Decimal.{column_length}
use Rattle.lines.proofs.ReadBack.{reads_back}
use Rattle.basics.specs.Range.{times}
use Rattle.basics.proofs.Tables.{table_at as filled_at}
use Rattle.house_table.specs.House.{opcode_count, highest_opcode, Permutation}
use Rattle.lua51_lifter.specs.Check.{Verdict, fine, first_refusal}
use Rattle.house_loading.specs.Loading.{table_line, number_said, table_of, form_verdict, number_verdict, load_verdict}
use Rattle.house_loading.specs.Loading.{table_lines, AllPermutations}
use Rattle.house_loading.proofs.Loading.{numbers_long}

-- a number that stands nowhere in a list
pub times_none : (x : ℕ) (ys : List ℕ) → ((j : ℕ) → j < length ys → x ≡ get_or ys j 0 → ⊥) → times x ys ≡ 0
unfolding times
times_none x [] h = refl
times_none x (y ∷ ys) h =
    rw (ne_eqb x y (h 0 (omega arith))) (omega (arith, times_none x ys (λ j l. h (suc j) (omega arith))))

-- nothing is wrong with a range where nothing is wrong with each
all_fine : (f : ℕ → Verdict) (from k : ℕ) → ((i : ℕ) → i < k → f (from + i) ≡ fine) → first_refusal f from k ≡ fine
unfolding first_refusal
all_fine f from zero h = refl
all_fine f from (suc k) h =
    let z : from + 0 ≡ from = omega arith in
    let rest = all_fine f (from + 1) k (λ i lt. subst (λ (x : ℕ). f x ≡ fine) (omega arith) (h (suc i) (omega arith))) in
    rw (rw z at (h 0 (omega arith))) rest

-- ------------------------------------------------------------ lines of numbers below 38

abbrev Small : List ℕ → Type 0
Small xs = (i : ℕ) → i < length xs → get_or xs i 0 < opcode_count

line_long : (x : ℕ) → x < opcode_count → length (number_line x) ≡ line_length
line_long x lt = length-append (column x) (line_feed ∷ []) ∙ rw (column_length x (omega arith)) refl

lines_long : (xs : List ℕ) → Small xs → length (table_lines xs) ≡ line_length * length xs
unfolding flat_map
lines_long [] h = refl
lines_long (x ∷ xs) h =
    omega (arith, length-append (number_line x) (table_lines xs), line_long x (h 0 (omega arith)), lines_long xs (λ i lt. h (suc i) (omega arith)))

line_found : (xs : List ℕ) (i : ℕ) → Small xs → i < length xs
    → take line_length (drop (line_length * i) (table_lines xs)) ≡ number_line (get_or xs i 0)
unfolding flat_map
line_found [] i h lt = absurd (omega arith)
line_found (x ∷ xs) zero h lt = take_at (number_line x) (table_lines xs) line_length (line_long x (h 0 (omega arith)))
line_found (x ∷ xs) (suc i) h lt =
    let far : line_length * suc i ≡ length (number_line x) + line_length * i = omega (arith, line_long x (h 0 (omega arith))) in
    rw (far, drop-append-add (number_line x) (table_lines xs) (line_length * i)) (line_found xs i (λ i lt. h (suc i) (omega arith)) (omega arith))

-- ------------------------------------------------------------ a permutation

module _ (table : List ℕ) (t : Permutation table) where
  abbrev s : List ℕ
  s = table_lines table

  small : Small table
  small i lt = t.small i (omega (arith, t.long))

  line_read_back : (i : ℕ) → i < opcode_count → table_line s i ≡ number (get_or table i 0)
  line_read_back i lt =
      reads_back.line_read_back s (line_length * i) (get_or table i 0) (omega (arith, t.small i lt))
      (line_found table i small (omega (arith, t.long)))

  gives : table_of s ≡ table
  gives =
      ext_get_or 0 (table_of s) table (numbers_long s ∙ sym t.long)
      (λ i lt.
      let few : i < opcode_count = omega (arith, numbers_long s) in
      filled_at (λ i. number_said (table_line s i)) opcode_count i few ∙ ap number_said (line_read_back i few))

  form_fine : (i : ℕ) → i < opcode_count → form_verdict s (0 + i) ≡ fine
  unfolding form_verdict
  form_fine i lt =
      let z : 0 + i ≡ i = omega arith in
      rw (z, line_read_back i lt)

  number_fine : (i : ℕ) → i < opcode_count → number_verdict table (0 + i) ≡ fine
  unfolding number_verdict
  number_fine i lt =
      let z : 0 + i ≡ i = omega arith in
      let earlier : length (take i table) ≡ i = length-take-le i table (omega (arith, t.long)) in
      let none : times (get_or table i 0) (take i table) ≡ 0 =
      times_none (get_or table i 0) (take i table)
      (λ j l e.
      let less : j < i = omega arith in
      t.once j i less lt (sym (e ∙ get_or-take i table j 0 less))) in
      rw (z, le-ltb highest_opcode (get_or table i 0) (omega (arith, t.small i lt)), none)

  not_refused : load_verdict s ≡ fine
  unfolding load_verdict
  not_refused =
      rw (
        lines_long table small,
        t.long,
        all_fine (form_verdict s) 0 opcode_count form_fine,
        gives,
        all_fine (number_verdict table) 0 opcode_count number_fine,
      )

pub all_permutations : AllPermutations
all_permutations table t = record { not_refused = not_refused table t; gives = gives table t }
