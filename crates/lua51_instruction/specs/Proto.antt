-- One function of a chunk: all that its refusals, its listing and its two followers go by.
use Rattle.std.specs.Prelude.{ℕ, Bool, List, Option, map, eqb, get_or, length}
use Rattle.lua51_instruction.specs.Word.{Op, Flow, number_of, op_of, row_of, field_opcode, field_a, field_b, field_c}
use Rattle.lua51_instruction.specs.Word.{field_bx}
use Rattle.lua51_instruction.specs.Jump.{target_of, word_or}

-- A function as numbers and lists of numbers.
pub record Proto : Type 0 where
  -- its number in the chunk
  pub number : ℕ
  pub parameters : ℕ
  pub upvalues : ℕ
  pub flags : ℕ
  pub stack : ℕ
  pub words : List ℕ
  -- the kind of each constant
  pub kinds : List ℕ
  -- the number of each function nested in it, and how many upvalues that function has
  pub nested : List ℕ
  pub nups : List ℕ
  -- the source line of each word
  pub lines : List ℕ
  -- how many upvalue names it has
  pub names : ℕ

-- the same function, each of its words w taken for back w: 'the words put back' (document 02, 3)
unfoldable pub reworded : (ℕ → ℕ) → Proto → Proto
reworded back p =
    record {
      number = p.number;
      parameters = p.parameters;
      upvalues = p.upvalues;
      flags = p.flags;
      stack = p.stack;
      words = map back p.words;
      kinds = p.kinds;
      nested = p.nested;
      nups = p.nups;
      lines = p.lines;
      names = p.names;
    }

-- document 01's n, 'the word count'
abbrev pub size : Proto → ℕ
size p = length p.words

-- word i, and its fields
abbrev pub word : Proto → ℕ → ℕ
word p i = get_or p.words i 0

abbrev pub opcode : Proto → ℕ → ℕ
opcode p i = field_opcode (word p i)

abbrev pub arg_a : Proto → ℕ → ℕ
arg_a p i = field_a (word p i)

abbrev pub arg_b : Proto → ℕ → ℕ
arg_b p i = field_b (word p i)

abbrev pub arg_c : Proto → ℕ → ℕ
arg_c p i = field_c (word p i)

abbrev pub arg_bx : Proto → ℕ → ℕ
arg_bx p i = field_bx (word p i)

-- the source line of word i; 0 in 'a function without lines' (document 02, 2)
abbrev pub line_at : Proto → ℕ → ℕ
line_at p i = get_or p.lines i 0

-- word i has the opcode o
abbrev pub is : Proto → ℕ → Op → Bool
is p i o = eqb (opcode p i) (number_of o)

-- what the table says of word i
abbrev pub op_at : Proto → ℕ → Op
op_at p i = op_of (opcode p i)

abbrev pub flow_at : Proto → ℕ → Flow
flow_at p i = (row_of (opcode p i)).flow

-- the 'jump target' of word i
abbrev pub target_at : Proto → ℕ → Option ℕ
target_at p i = target_of i (size p) (word p i)

-- its word; n in place of one outside, which refusal 10 rules out
abbrev pub target : Proto → ℕ → ℕ
target p i = word_or (size p) (target_at p i)

-- of the function that a CLOSURE at word i makes: 'the function's number in the chunk', and its count of upvalues
abbrev pub closure_of : Proto → ℕ → ℕ
closure_of p i = get_or p.nested (arg_bx p i) 0

abbrev pub captures_of : Proto → ℕ → ℕ
captures_of p i = get_or p.nups (arg_bx p i) 0
