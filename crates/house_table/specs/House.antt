-- A house table of opcode numbers, and words put back by it (document 02, 3).
use Rattle.std.specs.Prelude.{ℕ, suc, ◌+◌, ◌-◌, ◌%◌, ◌<◌, cond, List, [], ◌∷◌, ◌≡◌, ltb, eqb, length, get_or}
use Rattle.basics.specs.Range.{table as filled}
use Rattle.lua51_instruction.specs.Word.{field_opcode, field_a, field_b, field_c, field_bx}

-- '38 lines': as many numbers as Lua 5.1 has opcodes, the highest of which is 37
abbrev pub opcode_count : ℕ
opcode_count = 38

abbrev pub highest_opcode : ℕ
highest_opcode = 37

-- 'Before any load the table is Lua's own.' 'The line at position i, from 0, gives the number that files use for Lua's opcode i.'
abbrev pub lua : List ℕ
lua =
    0 ∷ 1 ∷ 2 ∷ 3 ∷ 4 ∷ 5 ∷ 6 ∷ 7 ∷ 8 ∷ 9 ∷ 10 ∷ 11 ∷ 12 ∷ 13 ∷ 14 ∷ 15 ∷ 16 ∷ 17 ∷ 18 ∷ 19 ∷
    20 ∷ 21 ∷ 22 ∷ 23 ∷ 24 ∷ 25 ∷ 26 ∷ 27 ∷ 28 ∷ 29 ∷ 30 ∷ 31 ∷ 32 ∷ 33 ∷ 34 ∷ 35 ∷ 36 ∷ 37 ∷ []

-- a table that a load accepts: 38 numbers, none 'above 37' and none 'a repeated one'
pub record Permutation (table : List ℕ) : Type 0 where
  pub long : length table ≡ opcode_count
  pub small : (i : ℕ) → i < opcode_count → get_or table i 0 < opcode_count
  pub once : (i j : ℕ) → i < j → j < opcode_count → get_or table i 0 ≡ get_or table j 0 → ⊥

-- ------------------------------------------------------------ putting back

-- the position of the first line that has the number o; the count of lines where none has it
unfoldable pub position_of : ℕ → List ℕ → ℕ
position_of o [] = 0
position_of o (x ∷ xs) = let further = suc (position_of o xs) in cond (eqb o x) 0 further

-- Lua's opcode for the number o of a file; 'those above 37 stay'. A table that was not loaded may lack a number: that becomes 38, which no
-- opcode has, and of two lines with one number the first counts
unfoldable pub opcode_back : List ℕ → ℕ → ℕ
opcode_back table o = cond (ltb highest_opcode o) o (position_of o table)

-- a word with its opcode put back
unfoldable pub word_back : List ℕ → ℕ → ℕ
word_back table w = w - field_opcode w + opcode_back table (field_opcode w)

-- words as they stand in the file, as document 01 takes them
abbrev pub as_it_stands : ℕ → ℕ
as_it_stands w = w

-- ------------------------------------------------------------ the inverse of a table, by which the code puts words back

-- how many numbers the 6 bits of an opcode have
abbrev pub number_count : ℕ
number_count = 64

-- for each of these numbers, Lua's opcode
abbrev pub inverse_of : List ℕ → List ℕ
inverse_of table = filled (opcode_back table) number_count

-- a word whose opcode o is exchanged for what `inverse` has at o, as far as 6 bits hold it
unfoldable pub word_by : List ℕ → ℕ → ℕ
word_by inverse w = w - field_opcode w + get_or inverse (field_opcode w) 0 % number_count

-- ------------------------------------------------------------ what is promised of a table

-- The number that files use for Lua's opcode i comes back as i, and every number to 37 is some opcode's; a word's other fields stay.
pub record PutsBack (table : List ℕ) : Type 0 where
  pub numbers : (i : ℕ) → i < opcode_count → opcode_back table (get_or table i 0) ≡ i
  pub opcodes : (o : ℕ) → o < opcode_count → (opcode_back table o < opcode_count) × (get_or table (opcode_back table o) 0 ≡ o)
  pub opcode : (w : ℕ) → field_opcode (word_back table w) ≡ opcode_back table (field_opcode w)
  pub operand_a : (w : ℕ) → field_a (word_back table w) ≡ field_a w
  pub operand_b : (w : ℕ) → field_b (word_back table w) ≡ field_b w
  pub operand_c : (w : ℕ) → field_c (word_back table w) ≡ field_c w
  pub operand_bx : (w : ℕ) → field_bx (word_back table w) ≡ field_bx w

-- 'this is shown over every permutation'
abbrev pub EveryPermutation : Type 0
EveryPermutation = (table : List ℕ) → Permutation table → PutsBack table

-- 'Before any load the table is Lua's own': by it every word is what it is in the file
abbrev pub LuaAsItStands : Type 0
LuaAsItStands = word_back lua ≡ as_it_stands
