-- An instruction word of Lua 5.1 and the table of its opcodes (lopcodes.h; document 01, under
-- instruction/argument.rs and instruction/mod.rs).
use Rattle.std.specs.Prelude.{ℕ, ◌/◌, ◌%◌, ◌^◌, List, [], ◌∷◌, get_or}

-- ------------------------------------------------------------ fields

-- the number that stands in `width` bits of a word, above its lowest `from` bits
abbrev pub bits : ℕ → ℕ → ℕ → ℕ
bits from width w = w / 2 ^ from % 2 ^ width

-- 'Bits from the lowest: opcode 6, A 8, C 9, B 9; Bx is the upper 18'
abbrev pub field_opcode : ℕ → ℕ
field_opcode = bits 0 6

abbrev pub field_a : ℕ → ℕ
field_a = bits 6 8

abbrev pub field_c : ℕ → ℕ
field_c = bits 14 9

abbrev pub field_b : ℕ → ℕ
field_b = bits 23 9

abbrev pub field_bx : ℕ → ℕ
field_bx = bits 14 18

-- what is taken from Bx to give a signed number: 'sBx = Bx − 131,071'
abbrev pub bias : ℕ
bias = 131071

-- ------------------------------------------------------------ opcodes

-- 'Opcodes 0 to 37', in lopcodes.h's order; UNKNOWN stands for every number above 37
pub data Op : Type 0 where
  MOVE LOADK LOADBOOL LOADNIL GETUPVAL GETGLOBAL GETTABLE SETGLOBAL SETUPVAL SETTABLE NEWTABLE SELF : Op
  ADD SUB MUL DIV MOD POW UNM NOT LEN CONCAT JMP EQ LT LE TEST TESTSET CALL TAILCALL RETURN : Op
  FORLOOP FORPREP TFORLOOP SETLIST CLOSE CLOSURE VARARG UNKNOWN : Op

-- the number of each opcode
abbrev pub number_of : Op → ℕ
number_of MOVE = 0
number_of LOADK = 1
number_of LOADBOOL = 2
number_of LOADNIL = 3
number_of GETUPVAL = 4
number_of GETGLOBAL = 5
number_of GETTABLE = 6
number_of SETGLOBAL = 7
number_of SETUPVAL = 8
number_of SETTABLE = 9
number_of NEWTABLE = 10
number_of SELF = 11
number_of ADD = 12
number_of SUB = 13
number_of MUL = 14
number_of DIV = 15
number_of MOD = 16
number_of POW = 17
number_of UNM = 18
number_of NOT = 19
number_of LEN = 20
number_of CONCAT = 21
number_of JMP = 22
number_of EQ = 23
number_of LT = 24
number_of LE = 25
number_of TEST = 26
number_of TESTSET = 27
number_of CALL = 28
number_of TAILCALL = 29
number_of RETURN = 30
number_of FORLOOP = 31
number_of FORPREP = 32
number_of TFORLOOP = 33
number_of SETLIST = 34
number_of CLOSE = 35
number_of CLOSURE = 36
number_of VARARG = 37
number_of UNKNOWN = 38

-- the opcodes in the order of their numbers
abbrev pub opcodes : List Op
opcodes =
    MOVE ∷ LOADK ∷ LOADBOOL ∷ LOADNIL ∷ GETUPVAL ∷ GETGLOBAL ∷ GETTABLE ∷ SETGLOBAL ∷ SETUPVAL ∷ SETTABLE ∷
    NEWTABLE ∷ SELF ∷ ADD ∷ SUB ∷ MUL ∷ DIV ∷ MOD ∷ POW ∷ UNM ∷ NOT ∷ LEN ∷ CONCAT ∷ JMP ∷ EQ ∷ LT ∷ LE ∷ TEST ∷
    TESTSET ∷ CALL ∷ TAILCALL ∷ RETURN ∷ FORLOOP ∷ FORPREP ∷ TFORLOOP ∷ SETLIST ∷ CLOSE ∷ CLOSURE ∷ VARARG ∷ []

-- the opcode of a number
unfoldable pub op_of : ℕ → Op
op_of o = get_or opcodes o UNKNOWN

-- ------------------------------------------------------------ the columns of the table

-- An operand's kind: what it stands for, and so what refusal 9 asks of it (lua51_lifter's Check, `operand`).
-- 'every register that lopcodes.h's comment reads, sets or puts in a run; A always where A is one; A+3 for FORPREP'
pub data Kind : Type 0 where
  -- nothing reads it
  unused : Kind
  -- R(x)
  register : Kind
  -- RK(x): 'An operand B or C that may be either is a constant (less 256) above 255'
  either : Kind
  -- UpValue[x]
  upvalue : Kind
  -- 0 or 1
  flag : Kind
  -- Kst(Bx); Kst(Bx) where it names a global; KPROTO[Bx]; sBx, which refusal 10 judges
  constant global nested offset : Kind
  -- A as the first of R(A), R(A+1); of R(A), .., R(A+3)
  pair quartet : Kind
  -- B as the last of R(A), .., R(B); C as the last of R(B), .., R(C), which are two or more
  last_from_a last_from_b : Kind
  -- one more than the count of R(A+1), ..; of R(A), ..; 0 where the count is open
  arguments values : Kind
  -- as `values`, of a function that has its variable arguments at hand
  varargs : Kind
  -- the count of R(A+1), .., 0 where it is open; the count of R(A+3), .., which are one or more
  elements variables : Kind
  -- SETLIST's block number, from 1
  block_number : Kind

-- Where control goes behind a word.
pub data Flow : Type 0 where
  -- to the next word
  straight : Flow
  -- to the next word, or to the one after where C is 1
  skip : Flow
  -- to the target
  jump : Flow
  -- to the next word or to the one after
  test : Flow
  -- as a test, with an assignment before the next word
  test_set : Flow
  -- to the target
  loop_entry : Flow
  -- to the target, with an assignment before it, or to the next word
  numeric_loop : Flow
  -- to the next word, with an assignment before it, or to the one after
  generic_loop : Flow
  -- out of the function
  exit : Flow

-- A row of the table. The kind of an operand Bx or sBx stands under b.
pub record Row : Type 0 where
  pub a : Kind
  pub b : Kind
  pub c : Kind
  pub flow : Flow

abbrev kinds : Kind → Kind → Kind → Flow → Row
kinds a b c f = record { a = a; b = b; c = c; flow = f }

-- ------------------------------------------------------------ the table

-- 'Opcodes 0 to 37 and their operand kinds stand in one constant table, as in lopcodes.h.' Each row stands under what
-- lopcodes.h's comment says of its opcode, read as lvm.c has it.
unfoldable pub row : Op → Row
-- MOVE A B: R(A) gets R(B)
row MOVE = kinds register register unused straight
-- LOADK A Bx: R(A) gets constant Bx
row LOADK = kinds register constant unused straight
-- LOADBOOL A B C: R(A) gets the boolean B; if C, the next word is passed over
row LOADBOOL = kinds register flag flag skip
-- LOADNIL A B: R(A) to R(B) get nil
row LOADNIL = kinds register last_from_a unused straight
-- GETUPVAL A B: R(A) gets upvalue B
row GETUPVAL = kinds register upvalue unused straight
-- GETGLOBAL A Bx: R(A) gets the global that constant Bx names
row GETGLOBAL = kinds register global unused straight
-- GETTABLE A B C: R(A) gets R(B)[RK(C)]
row GETTABLE = kinds register register either straight
-- SETGLOBAL A Bx: the global that constant Bx names gets R(A)
row SETGLOBAL = kinds register global unused straight
-- SETUPVAL A B: upvalue B gets R(A)
row SETUPVAL = kinds register upvalue unused straight
-- SETTABLE A B C: R(A)[RK(B)] gets RK(C)
row SETTABLE = kinds register either either straight
-- NEWTABLE A B C: R(A) gets a new table, with B and C as sizes
row NEWTABLE = kinds register unused unused straight
-- SELF A B C: R(A+1) gets R(B); R(A) gets R(B)[RK(C)]
row SELF = kinds pair register either straight
-- ADD A B C: R(A) gets RK(B) + RK(C)
row ADD = kinds register either either straight
-- SUB A B C: R(A) gets RK(B) − RK(C)
row SUB = kinds register either either straight
-- MUL A B C: R(A) gets RK(B) × RK(C)
row MUL = kinds register either either straight
-- DIV A B C: R(A) gets RK(B) / RK(C)
row DIV = kinds register either either straight
-- MOD A B C: R(A) gets RK(B) % RK(C)
row MOD = kinds register either either straight
-- POW A B C: R(A) gets RK(B) ^ RK(C)
row POW = kinds register either either straight
-- UNM A B: R(A) gets −R(B)
row UNM = kinds register register unused straight
-- NOT A B: R(A) gets not R(B)
row NOT = kinds register register unused straight
-- LEN A B: R(A) gets the length of R(B)
row LEN = kinds register register unused straight
-- CONCAT A B C: R(A) gets R(B) .. to R(C), joined from the right
row CONCAT = kinds register register last_from_b straight
-- JMP sBx: to the target
row JMP = kinds unused offset unused jump
-- EQ A B C: if RK(B) == RK(C) is not as A says, the next word is passed over
row EQ = kinds flag either either test
-- LT A B C: if RK(B) < RK(C) is not as A says, the next word is passed over
row LT = kinds flag either either test
-- LE A B C: if RK(B) <= RK(C) is not as A says, the next word is passed over
row LE = kinds flag either either test
-- TEST A C: if R(A) is not as C says, the next word is passed over
row TEST = kinds register unused flag test
-- TESTSET A B C: if R(B) is as C says, R(A) gets R(B), else the next word is passed over
row TESTSET = kinds register register flag test_set
-- CALL A B C: R(A) to R(A+C−2) get R(A)(R(A+1) to R(A+B−1)); B 0 and C 0: open
row CALL = kinds register arguments values straight
-- TAILCALL A B C: return R(A)(R(A+1) to R(A+B−1)); B 0: open
row TAILCALL = kinds register arguments unused straight
-- RETURN A B: return R(A) to R(A+B−2); B 0: open
row RETURN = kinds register values unused exit
-- FORLOOP A sBx: R(A) gets R(A) + R(A+2); if R(A) is within R(A+1), R(A+3) gets R(A), to the target
row FORLOOP = kinds quartet offset unused numeric_loop
-- FORPREP A sBx: R(A) gets R(A) − R(A+2); to the target
row FORPREP = kinds quartet offset unused loop_entry
-- TFORLOOP A C: R(A+3) to R(A+2+C) get R(A)(R(A+1), R(A+2)); if R(A+3) is not nil, R(A+2) gets R(A+3), else the next
-- word is passed over
row TFORLOOP = kinds register unused variables generic_loop
-- SETLIST A B C: R(A)[(C−1)·50 + i] gets R(A+i), for i from 1 to B; B 0: open
row SETLIST = kinds register elements block_number straight
-- CLOSE A: the variables from R(A) up are closed
row CLOSE = kinds register unused unused straight
-- CLOSURE A Bx: R(A) gets a closure of nested function Bx; the words behind it say what it captures
row CLOSURE = kinds register nested unused straight
-- VARARG A B: R(A) to R(A+B−2) get the variable arguments; B 0: open
row VARARG = kinds register varargs unused straight
-- refusal 9 rules it out
row UNKNOWN = kinds unused unused unused straight

-- the row of an opcode's number
unfoldable pub row_of : ℕ → Row
row_of o = row (op_of o)
