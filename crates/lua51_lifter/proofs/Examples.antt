-- A function with every opcode, and its listing: what each word gives, computed; a between block; source lines. Assumes nothing.
use Prim.Native.Nat.{ℕ}
use mathlib.Core.List.{List, [], ◌∷◌, ◌++◌, flat_map}
use mathlib.Core.Path.{◌≡◌, refl}
use Rattle.lua51_instruction.specs.Word.{MOVE, LOADK, LOADBOOL, LOADNIL, GETUPVAL, GETGLOBAL, GETTABLE, SETGLOBAL}
use Rattle.lua51_instruction.specs.Word.{SETUPVAL, SETTABLE, NEWTABLE, SELF, ADD, SUB, MUL, DIV, MOD, POW, UNM, NOT}
use Rattle.lua51_instruction.specs.Word.{LEN, CONCAT, JMP, EQ, LT, LE, TEST, TESTSET, CALL, TAILCALL, RETURN, FORLOOP}
use Rattle.lua51_instruction.specs.Word.{FORPREP, TFORLOOP, SETLIST, CLOSE, CLOSURE, VARARG, op_of, row, row_of}
use Rattle.basics.specs.Range.{sum, times, over, only}
use Rattle.lua51_instruction.specs.Jump.{target_of}
use Rattle.lua51_instruction.specs.Proto.{Proto}
use Rattle.lua51_instruction.specs.Encode.{abc, abx, jumps}
use Rattle.lines.specs.Line.{digits, decimal, column, line}
use Rattle.lines.specs.Text.{bytes}
use Rattle.lua51_value.specs.Value.{Value, text, kind_string, kind_nil, nil, kind_of}
use Rattle.cfg.specs.Graph.{claims, leader, block_of, leader_from, past, leaving, exits, entering, is_loop, then_of}
use Rattle.cfg.specs.Graph.{diverted, between_of}
use Rattle.lua51_lifter.specs.Check.{first_refusal, head_fault, last_fault, operand, operand_fault, lands_inside}
use Rattle.lua51_lifter.specs.Check.{tests, word_verdict, opener, user, slot, matches, unused_results}
use Rattle.lua51_lifter.specs.Check.{missing_results, all_captures, reaches, reached, use_verdict, line_verdict}
use Rattle.lua51_lifter.specs.Check.{check, fine, wrong}
use Rattle.ast.specs.Statement.{count, expr, exprs, tail_numbers, run, registers}
use Rattle.lua51_lifter.specs.Lift.{rk, condition, concatenated, captures, taken, open_results, statements_by, pending}
use Rattle.lua51_lifter.specs.Lift.{statements, on_then}
use Rattle.lua51_lifter.specs.Blocks.{leads, edges_of, entry_nils, stated, brought, front, code_block, entry_block}
use Rattle.lua51_lifter.specs.Blocks.{between_block, blocks, naming, graph}
use Rattle.lua51_lifter.specs.SourceLines.{lines_of, lowest, highest}
use Rattle.lua51_lifter.specs.Listing.{value, constant_items, block_items, all_block_items, function_items, named_numbers}
use Rattle.lua51_lifter.specs.Listing.{source_lines, items, listing}

-- the words; those at 45 and 46 are the captures of the closure before them
sample_words : List ℕ
sample_words =
    abc MOVE 1 0 0 ∷
    abx LOADK 1 1 ∷
    abc LOADBOOL 1 1 0 ∷
    abc LOADNIL 1 2 0 ∷
    abc GETUPVAL 1 0 0 ∷
    abx GETGLOBAL 1 0 ∷
    abc GETTABLE 1 0 257 ∷
    abx SETGLOBAL 1 0 ∷
    abc SETUPVAL 1 0 0 ∷
    abc SETTABLE 1 2 256 ∷
    abc NEWTABLE 1 0 0 ∷
    abc SELF 1 0 256 ∷
    abc ADD 1 0 257 ∷
    abc SUB 1 0 257 ∷
    abc MUL 1 0 257 ∷
    abc DIV 1 0 257 ∷
    abc MOD 1 0 257 ∷
    abc POW 1 0 257 ∷
    abc UNM 1 0 0 ∷
    abc NOT 1 0 0 ∷
    abc LEN 1 0 0 ∷
    abc CONCAT 1 2 4 ∷
    abc EQ 1 0 257 ∷
    jumps JMP 0 23 26 ∷
    abc LT 0 0 257 ∷
    jumps JMP 0 25 26 ∷
    abc LE 1 0 257 ∷
    jumps JMP 0 27 28 ∷
    abc TEST 1 0 0 ∷
    jumps JMP 0 29 30 ∷
    abc TESTSET 1 0 1 ∷
    jumps JMP 0 31 32 ∷
    abc CALL 1 2 3 ∷
    abc CALL 1 1 1 ∷
    abc VARARG 2 0 0 ∷
    abc CALL 1 0 0 ∷
    abc SETLIST 0 0 2 ∷
    abc SETLIST 0 2 1 ∷
    jumps FORPREP 2 38 40 ∷
    abc MOVE 5 0 0 ∷
    jumps FORLOOP 2 40 39 ∷
    abc TFORLOOP 1 0 2 ∷
    jumps JMP 0 42 43 ∷
    abc CLOSE 3 0 0 ∷
    abx CLOSURE 3 0 ∷
    abc MOVE 0 1 0 ∷
    abc GETUPVAL 0 0 0 ∷
    abc VARARG 2 2 0 ∷
    abc LOADBOOL 1 0 1 ∷
    abc LOADBOOL 1 1 0 ∷
    abc TAILCALL 1 1 0 ∷
    abc RETURN 1 0 0 ∷
    abc RETURN 0 1 0 ∷ []

-- one parameter and one upvalue, variable arguments, 8 registers; a string constant and a nil; one nested function, number 1,
-- with two upvalues
sample : Proto
sample = record {
  number = 0;
  parameters = 1;
  upvalues = 1;
  flags = 2;
  stack = 8;
  words = sample_words;
  kinds = kind_string ∷ kind_nil ∷ [];
  nested = 1 ∷ [];
  nups = 2 ∷ [];
  lines = [];
  names = 0;
}

sample_constants : List Value
sample_constants = text (97 ∷ []) ∷ nil ∷ []

sample_listing : List ℕ
sample_listing =
    bytes "F      0      1      1      8\n"
    ++ bytes "K      0      4      1     97\n"
    ++ bytes "K      1      0\n"
    -- block 0
    ++ bytes "B      0      0     23      0      0      0\n"
    -- 0: MOVE 1 0 0
    ++ bytes "S      0      0      1      1      1      1      1      1      0\n"
    -- 1: LOADK 1 1
    ++ bytes "S      1      1      1      1      1      1      1      2      1\n"
    -- 2: LOADBOOL 1 1 0
    ++ bytes "S      2      2      1      1      1      1      1      4      1\n"
    -- 3: LOADNIL 1 2 0
    ++ bytes "S      3      3      1      1      1      1      1      3\n"
    ++ bytes "S      3      3      1      1      1      1      2      3\n"
    -- 4: GETUPVAL 1 0 0
    ++ bytes "S      4      4      1      1      1      1      1      5      0\n"
    -- 5: GETGLOBAL 1 0
    ++ bytes "S      5      5      1      1      1      1      1      6      0\n"
    -- 6: GETTABLE 1 0 257
    ++ bytes "S      6      6      1      1      1      1      1      7      1      0      2      1\n"
    -- 7: SETGLOBAL 1 0
    ++ bytes "S      7      7      1      1      1      6      0      1      1\n"
    -- 8: SETUPVAL 1 0 0
    ++ bytes "S      8      8      1      1      1      5      0      1      1\n"
    -- 9: SETTABLE 1 2 256
    ++ bytes "S      9      9      1      1      1      7      1      1      1      2      2      0\n"
    -- 10: NEWTABLE 1 0 0
    ++ bytes "S     10     10      1      1      1      1      1     13\n"
    -- 11: SELF 1 0 256
    ++ bytes "S     11     11      1      1      1      1      2      1      0\n"
    ++ bytes "S     11     11      1      1      1      1      1      7      1      0      2      0\n"
    -- 12: ADD 1 0 257
    ++ bytes "S     12     12      1      1      1      1      1      9      1      1      0      2      1\n"
    -- 13: SUB 1 0 257
    ++ bytes "S     13     13      1      1      1      1      1      9      2      1      0      2      1\n"
    -- 14: MUL 1 0 257
    ++ bytes "S     14     14      1      1      1      1      1      9      3      1      0      2      1\n"
    -- 15: DIV 1 0 257
    ++ bytes "S     15     15      1      1      1      1      1      9      4      1      0      2      1\n"
    -- 16: MOD 1 0 257
    ++ bytes "S     16     16      1      1      1      1      1      9      5      1      0      2      1\n"
    -- 17: POW 1 0 257
    ++ bytes "S     17     17      1      1      1      1      1      9      6      1      0      2      1\n"
    -- 18: UNM 1 0 0
    ++ bytes "S     18     18      1      1      1      1      1      8      2      1      0\n"
    -- 19: NOT 1 0 0
    ++ bytes "S     19     19      1      1      1      1      1      8      1      1      0\n"
    -- 20: LEN 1 0 0
    ++ bytes "S     20     20      1      1      1      1      1      8      3      1      0\n"
    -- 21: CONCAT 1 2 4
    ++ bytes "S     21     21      1      1      1      1      1      9      7      1      2      9      7      1      3      1      4\n"
    -- 22: EQ 1 0 257
    ++ bytes "S     22     23      3      9      8      1      0      2      1\n"
    ++ bytes "E      1      1\n"
    ++ bytes "E      2      2\n"
    -- block 1
    ++ bytes "B      1     23     24      0      0      0\n"
    ++ bytes "E      0      4\n"
    -- block 2
    ++ bytes "B      2     24     25      0      0      0\n"
    -- 24: LT 0 0 257
    ++ bytes "S     24     24      3      8      1      9     10      1      0      2      1\n"
    ++ bytes "E      1      3\n"
    ++ bytes "E      2      4\n"
    -- block 3
    ++ bytes "B      3     25     26      0      0      0\n"
    ++ bytes "E      0      4\n"
    -- block 4
    ++ bytes "B      4     26     27      0      0      0\n"
    -- 26: LE 1 0 257
    ++ bytes "S     26     25      3      9     11      1      0      2      1\n"
    ++ bytes "E      1      5\n"
    ++ bytes "E      2      6\n"
    -- block 5
    ++ bytes "B      5     27     28      0      0      0\n"
    ++ bytes "E      0      6\n"
    -- block 6
    ++ bytes "B      6     28     29      0      0      0\n"
    -- 28: TEST 1 0 0
    ++ bytes "S     28     26      3      8      1      1      1\n"
    ++ bytes "E      1      7\n"
    ++ bytes "E      2      8\n"
    -- block 7
    ++ bytes "B      7     29     30      0      0      0\n"
    ++ bytes "E      0      8\n"
    -- block 8
    ++ bytes "B      8     30     31      0      0      0\n"
    -- 30: TESTSET 1 0 1
    ++ bytes "S     30     27      3      1      0\n"
    ++ bytes "E      1      9\n"
    ++ bytes "E      2     10\n"
    -- block 9
    ++ bytes "B      9     31     32      0      0      0\n"
    -- in front, of TESTSET at 30
    ++ bytes "S     30     27      1      1      1      1      1      1      0\n"
    ++ bytes "E      0     10\n"
    -- block 10
    ++ bytes "B     10     32     39      0      0      0\n"
    -- 32: CALL 1 2 3
    ++ bytes "S     32     28      1      2      1      1      1      1      2     14     10      1      1      1      1      2\n"
    -- 33: CALL 1 1 1
    ++ bytes "S     33     28      2     10      1      1      0\n"
    -- 36: SETLIST 0 0 2
    ++ bytes "S     36     34      7      0     51      0      1     10      1      1      1     11\n"
    -- 37: SETLIST 0 2 1
    ++ bytes "S     37     34      7      0      1      2      1      1      1      2      0\n"
    -- 38: FORPREP 2 40
    ++ bytes "S     38     32      5      2      3      4\n"
    ++ bytes "E      0     12\n"
    -- block 11
    ++ bytes "B     11     39     40      0      0      0\n"
    -- in front, of FORLOOP at 40
    ++ bytes "S     40     31      1      1      1      1      5      1      2\n"
    -- 39: MOVE 5 0 0
    ++ bytes "S     39      0      1      1      1      1      5      1      0\n"
    ++ bytes "E      0     12\n"
    -- block 12
    ++ bytes "B     12     40     41      0      0      0\n"
    -- 40: FORLOOP 2 39
    ++ bytes "S     40     31      6      2      3      4\n"
    ++ bytes "E      1     11\n"
    ++ bytes "E      2     13\n"
    -- block 13
    ++ bytes "B     13     41     42      0      0      0\n"
    -- 41: TFORLOOP 1 0 2
    ++ bytes "S     41     33      1      2      1      1      4      1      5     10      1      1      2      1      2      1      3\n"
    ++ bytes "S     41     33      3      9      9      1      4      3\n"
    ++ bytes "E      1     14\n"
    ++ bytes "E      2     15\n"
    -- block 14
    ++ bytes "B     14     42     43      0      0      0\n"
    -- in front, of TFORLOOP at 41
    ++ bytes "S     41     33      1      1      1      1      3      1      4\n"
    ++ bytes "E      0     15\n"
    -- block 15
    ++ bytes "B     15     43     49      0      0      0\n"
    -- 43: CLOSE 3 0 0
    ++ bytes "S     43     35      8      5      3      4      5      6      7\n"
    -- 44: CLOSURE 3 0
    ++ bytes "S     44     36      1      1      1      1      3     12      1      2      1      1      5      0\n"
    -- 47: VARARG 2 2 0
    ++ bytes "S     47     37      1      1      1      1      2     14     11\n"
    -- 48: LOADBOOL 1 0 1
    ++ bytes "S     48      2      1      1      1      1      1      4      0\n"
    ++ bytes "E      0     17\n"
    -- block 16
    ++ bytes "B     16     49     50      0      0      0\n"
    -- 49: LOADBOOL 1 1 0
    ++ bytes "S     49      2      1      1      1      1      1      4      1\n"
    ++ bytes "E      0     17\n"
    -- block 17
    ++ bytes "B     17     50     52      0      0      0\n"
    -- 51: RETURN 1 0 0
    ++ bytes "S     51     30      4      1     10      1      1      0\n"
    -- block 18
    ++ bytes "B     18     52     53      0      0      0\n"
    -- 52: RETURN 0 1 0
    ++ bytes "S     52     30      4      0\n"
    -- block 19
    ++ bytes "B     19     53     53      0      0      0\n"
    -- the entry block
    ++ bytes "B     20     53     53      1      0      0\n"
    ++ bytes "S     53     99      1      1      1      1      1      3\n"
    ++ bytes "S     53     99      1      1      1      1      2      3\n"
    ++ bytes "S     53     99      1      1      1      1      3      3\n"
    ++ bytes "S     53     99      1      1      1      1      4      3\n"
    ++ bytes "S     53     99      1      1      1      1      5      3\n"
    ++ bytes "S     53     99      1      1      1      1      6      3\n"
    ++ bytes "S     53     99      1      1      1      1      7      3\n"
    ++ bytes "E      0      0\n"

sample_accepted : check sample ≡ fine
unfolding target_of sum times op_of row row_of claims leader first_refusal head_fault last_fault operand operand_fault lands_inside tests
    word_verdict opener user slot matches unused_results missing_results all_captures reaches reached use_verdict line_verdict check
    sample sample_words
sample_accepted = refl

sample_listed : listing sample sample_constants ≡ sample_listing
unfolding target_of flat_map digits decimal column line bytes over sum times op_of row row_of claims leader block_of leader_from past
    leaving exits entering is_loop then_of diverted between_of count expr exprs tail_numbers run registers rk condition
    concatenated captures taken open_results statements_by pending statements on_then leads edges_of entry_nils stated brought front code_block
    entry_block between_block blocks naming graph kind_of value constant_items block_items all_block_items function_items
    named_numbers lines_of lowest highest source_lines items listing sample sample_words sample_constants sample_listing
sample_listed = refl

-- ------------------------------------------------------------ a between block

-- FORLOOP to the next word (document 01's P6): Then goes by way of a between block, and Else skips it. The lines of its two words
-- are in their blocks alone
onward : Proto
onward = record {
  number = 0;
  parameters = 3;
  upvalues = 0;
  flags = 0;
  stack = 4;
  words = jumps FORLOOP 0 0 1 ∷ abc RETURN 0 1 0 ∷ [];
  kinds = [];
  nested = [];
  nups = [];
  lines = 7 ∷ 3 ∷ [];
  names = 0;
}

onward_listing : List ℕ
onward_listing =
    bytes "F      0      3      0      4\n"
    ++ bytes "B      0      0      1      0      7      7\n"
    ++ bytes "S      0     31      6      0      1      2\n"
    ++ bytes "E      1      4\n"
    ++ bytes "E      2      1\n"
    ++ bytes "B      1      1      2      0      3      3\n"
    ++ bytes "S      1     30      4      0\n"
    ++ bytes "B      2      2      2      0      0      0\n"
    ++ bytes "B      3      2      2      1      0      0\n"
    ++ bytes "S      2     99      1      1      1      1      3      3\n"
    ++ bytes "E      0      0\n"
    ++ bytes "B      4      2      2      2      0      0\n"
    ++ bytes "S      0     31      1      1      1      1      3      1      0\n"
    ++ bytes "E      0      1\n"

onward_listed : listing onward [] ≡ onward_listing
unfolding target_of flat_map digits decimal column line bytes over sum times op_of row row_of claims leader block_of leader_from past
    leaving exits entering is_loop then_of diverted between_of count expr exprs tail_numbers run registers rk condition
    concatenated captures taken open_results statements_by pending statements on_then leads edges_of entry_nils stated brought front code_block
    entry_block between_block blocks naming graph kind_of value constant_items block_items all_block_items function_items
    named_numbers lines_of lowest highest source_lines items listing onward onward_listing
onward_listed = refl

-- ------------------------------------------------------------ source lines

-- R(0) gets R(0) three times, and RETURN; or a CALL behind the first, whose open results nothing uses
lined : List ℕ → List ℕ → Proto
lined words lines = record {
  number = 0;
  parameters = 1;
  upvalues = 0;
  flags = 0;
  stack = 1;
  words = words;
  kinds = [];
  nested = [];
  nups = [];
  lines = lines;
  names = 0;
}

moves : List ℕ
moves = abc MOVE 0 0 0 ∷ abc MOVE 0 0 0 ∷ abc MOVE 0 0 0 ∷ abc RETURN 0 1 0 ∷ []

unused : List ℕ
unused = abc MOVE 0 0 0 ∷ abc CALL 0 1 0 ∷ abc MOVE 0 0 0 ∷ abc RETURN 0 1 0 ∷ []

-- neither the lowest line nor the highest is that of the first word or of the last
lined_listing : List ℕ
lined_listing =
    bytes "F      0      1      0      1\n"
    ++ bytes "B      0      0      4      0      2      9\n"
    ++ bytes "S      0      0      1      1      1      1      0      1      0\n"
    ++ bytes "S      1      0      1      1      1      1      0      1      0\n"
    ++ bytes "S      2      0      1      1      1      1      0      1      0\n"
    ++ bytes "S      3     30      4      0\n"
    ++ bytes "B      1      4      4      0      0      0\n"
    ++ bytes "B      2      4      4      1      0      0\n"
    ++ bytes "E      0      0\n"

lined_listed : listing (lined moves (5 ∷ 9 ∷ 2 ∷ 4 ∷ [])) [] ≡ lined_listing
unfolding target_of flat_map digits decimal column line bytes over sum times op_of row row_of claims leader block_of leader_from past
    leaving exits entering is_loop then_of diverted between_of count expr exprs tail_numbers run registers rk condition
    concatenated captures taken open_results statements_by pending statements on_then leads edges_of entry_nils stated brought front code_block
    entry_block between_block blocks naming graph kind_of value constant_items block_items all_block_items function_items
    named_numbers lines_of lowest highest source_lines items listing lined moves lined_listing
lined_listed = refl

-- 15: 'a line above 999,999, read as unsigned; place its word; tested after 12 to 14'
lines_judged : only (check (lined moves (5 ∷ 999999 ∷ 0 ∷ 4 ∷ [])))
    ++ only (check (lined moves (5 ∷ 1000000 ∷ 2 ∷ 4294967295 ∷ [])))
    ++ only (check (lined moves (5 ∷ 9 ∷ 2 ∷ 4294967295 ∷ [])))
    ++ only (check (lined unused (4294967295 ∷ 9 ∷ 2 ∷ 4 ∷ [])))
    ≡ fine ∷ wrong 15 1 ∷ wrong 15 3 ∷ wrong 12 1 ∷ []
unfolding target_of sum times op_of row row_of claims leader first_refusal head_fault last_fault operand operand_fault lands_inside tests
    word_verdict opener user slot matches unused_results missing_results all_captures reaches reached use_verdict line_verdict check
    lined moves unused
lines_judged = refl
