-- The bytes of a house table: what they say, and how they are refused (document 02, 3).
use Rattle.std.specs.Prelude.{ℕ, ◌*◌, Bool, true, false, not, ◌||◌, ◌≡◌, ltb, eqb, length, get_or, take}
use mathlib.Core.List.{List, flat_map}
use Rattle.lines.specs.Numeral.{Numeral, number, other_form, line_length, line_says, number_line}
use Rattle.basics.specs.Range.{times, table as filled}
use Rattle.house_table.specs.House.{opcode_count, highest_opcode, Permutation}
use Rattle.lua51_lifter.specs.Check.{Verdict, fine, ◌else◌, refuse_if, first_refusal}

-- '38 lines .. 304 bytes'
abbrev pub table_length : ℕ
table_length = line_length * opcode_count

-- ------------------------------------------------------------ what the lines say

-- what the line at position i says: 'a number in 7 columns, as a listing prints it, and a line feed', or something else
abbrev pub table_line : List ℕ → ℕ → Numeral
table_line s i = line_says s (line_length * i)

-- bytes that say no number
abbrev pub says_none : Numeral → Bool
says_none (number x) = false
says_none other_form = true

-- the number that they say; 0 where they say none
abbrev pub number_said : Numeral → ℕ
number_said (number x) = x
number_said other_form = 0

-- 'The line at position i, from 0, gives the number that files use for Lua's opcode i.'
abbrev pub table_of : List ℕ → List ℕ
table_of s = filled (λ i. number_said (table_line s i)) opcode_count

-- ------------------------------------------------------------ refusals

-- '34, the bytes loaded have another form', 'place the first offending line's position'
unfoldable pub form_verdict : List ℕ → ℕ → Verdict
form_verdict s i = refuse_if (says_none (table_line s i)) 34 i

-- 'a repeated one', 'the later of two equal numbers'
abbrev pub repeated : List ℕ → ℕ → Bool
repeated xs i = ltb 0 (times (get_or xs i 0) (take i xs))

-- '35, a number above 37 or a repeated one'
unfoldable pub number_verdict : List ℕ → ℕ → Verdict
number_verdict xs i = refuse_if (ltb highest_opcode (get_or xs i 0) || repeated xs i) 35 i

-- 34, with place '0 for a wrong length'; 34 of every line; 'then 35' of every line
unfoldable pub load_verdict : List ℕ → Verdict
load_verdict s =
    refuse_if (not (eqb (length s) table_length)) 34 0
    else first_refusal (form_verdict s) 0 opcode_count
    else first_refusal (number_verdict (table_of s)) 0 opcode_count

-- ------------------------------------------------------------ what is promised of a load

-- the bytes that give a table
abbrev pub table_lines : List ℕ → List ℕ
table_lines table = flat_map number_line table

-- Bytes that are not refused are the lines of a permutation,
pub record PermutationLines (s : List ℕ) : Type 0 where
  pub permutation : Permutation (table_of s)
  pub printed : s ≡ table_lines (table_of s)

abbrev pub OnlyPermutations : Type 0
OnlyPermutations = (s : List ℕ) → load_verdict s ≡ fine → PermutationLines s

-- and the lines of every permutation are not refused, and give it.
pub record LoadsAs (table : List ℕ) : Type 0 where
  pub not_refused : load_verdict (table_lines table) ≡ fine
  pub gives : table_of (table_lines table) ≡ table

abbrev pub AllPermutations : Type 0
AllPermutations = (table : List ℕ) → Permutation table → LoadsAs table
