-- The table of cases: document 01's P1 to P10, a case for each of its slips, functions that may not be confused, the words that
-- statements name, source lines, and house tables (document 02, 1 to 3).
use Rattle.std.specs.Prelude.{true, List, [], ◌∷◌, ◌++◌, length, drop, take, ℕ, ◌+◌, ◌*◌}
use Rattle.lua51_instruction.specs.Word.{MOVE, LOADK, LOADBOOL, LOADNIL, GETUPVAL, JMP, EQ, LT, TESTSET, CALL, TAILCALL}
use Rattle.lua51_instruction.specs.Word.{RETURN, FORLOOP, FORPREP, TFORLOOP, SETLIST, CLOSURE}
use Rattle.lua51_deserializer.specs.Chunk.{header}
use Rattle.house_table.specs.House.{lua}
use Rattle.lines.specs.Text.{bytes}
use Rattle.lua51_instruction.specs.Encode.{abc, abx, jumps}
use Rattle.reading.specs.Reading.{Reading, closed_with, closed}
use Rattle.cases.specs.Make.{lined_bytes, function_bytes, chunk, lined_chunk, rotated}
use Rattle.cases.specs.Cases.{Case, Asked, judged, listed, compared, printed, statements, edges, behind, sources, account_by_graph, account_by_words}
use Rattle.cases.specs.Cases.{under, put_back, load, load_leaves, opening_leaves}

abbrev case : List ℕ → Asked → List ℕ → Case
case s asked expected = record { chunk = s; asked = asked; expected = expected }

-- RETURN 0 1
abbrev return : ℕ
return = abc RETURN 0 1 0

-- ------------------------------------------------------------ chunks of more than one use

-- 'For RETURN 0 1, stack 2'
unfoldable pub return_alone : List ℕ
return_alone = chunk 2 (return ∷ [])

-- its lines in document 01
unfoldable pub return_compared : List ℕ
return_compared =
    bytes "F      0      0      0      2\n"
    ++ bytes "B      0      0      1      0\n"
    ++ bytes "S      4      0\n"
    ++ bytes "B      1      1      1      0\n"
    ++ bytes "B      2      1      1      1\n"
    ++ bytes "S      1      1      1      1      0      3\n"
    ++ bytes "S      1      1      1      1      1      3\n"
    ++ bytes "E      0      0\n"

-- its listing, each S line with the word and its opcode (document 02, 1), each B line with two source lines (2)
unfoldable pub return_listing : List ℕ
return_listing =
    bytes "F      0      0      0      2\n"
    ++ bytes "B      0      0      1      0      0      0\n"
    ++ bytes "S      0     30      4      0\n"
    ++ bytes "B      1      1      1      0      0      0\n"
    ++ bytes "B      2      1      1      1      0      0\n"
    ++ bytes "S      1     99      1      1      1      1      0      3\n"
    ++ bytes "S      1     99      1      1      1      1      1      3\n"
    ++ bytes "E      0      0\n"

-- EQ 0 0 0, JMP 0, RETURN
unfoldable pub equal_jump : List ℕ
equal_jump = chunk 1 (abc EQ 0 0 0 ∷ jumps JMP 0 1 2 ∷ return ∷ [])

-- the same with a jump back to the comparison
unfoldable pub equal_back : List ℕ
equal_back = chunk 1 (abc EQ 0 0 0 ∷ jumps JMP 0 1 0 ∷ return ∷ [])

-- FORPREP to 1, FORLOOP to 1, RETURN
unfoldable pub numeric_for : List ℕ
numeric_for = chunk 4 (jumps FORPREP 0 0 1 ∷ jumps FORLOOP 0 1 1 ∷ return ∷ [])

-- FORLOOP to the next word
unfoldable pub loop_onward : List ℕ
loop_onward = chunk 4 (jumps FORLOOP 0 0 1 ∷ return ∷ [])

-- FORLOOP to word 0, itself
unfoldable pub loop_first : List ℕ
loop_first = chunk 4 (jumps FORLOOP 0 0 0 ∷ return ∷ [])

-- CALL 0 1 0, RETURN 0 0, RETURN 0 1
unfoldable pub open_return : List ℕ
open_return = chunk 1 (abc CALL 0 1 0 ∷ abc RETURN 0 0 0 ∷ return ∷ [])

-- a function in a function in main, each with its own head and words; main has a constant, a NaN
unfoldable pub three_deep : List ℕ
three_deep =
    let inner = function_bytes 1 0 0 1 (abc GETUPVAL 0 0 0 ∷ abc RETURN 0 2 0 ∷ []) [] [] in
    let outer = function_bytes 0 2 0 3 (abx CLOSURE 2 0 ∷ abc MOVE 0 1 0 ∷ abc RETURN 2 2 0 ∷ []) [] (inner ∷ []) in
    let not_a_number : List ℕ = 3 ∷ 1 ∷ 2 ∷ 3 ∷ 4 ∷ 5 ∷ 6 ∷ 0xF8 ∷ 0x7F ∷ [] in
    header ++ function_bytes 0 0 0 2 (abx CLOSURE 0 0 ∷ abx LOADK 1 0 ∷ return ∷ []) (not_a_number ∷ []) (outer ∷ [])

-- ------------------------------------------------------------ P1 to P10

unfoldable pub proved_cases : List Case
proved_cases =
    -- P1: 'no words: 8, place 0'
    case (chunk 1 []) judged (8 ∷ 0 ∷ 0 ∷ []) ∷
    -- P2: 'above'
    case return_alone (compared 0) return_compared ∷
    case return_alone (listed 0) return_listing ∷
    -- P3: 'JMP to n − 1 stands, to n is 10'
    case (chunk 1 (jumps JMP 0 0 1 ∷ return ∷ [])) judged (1 ∷ []) ∷
    case (chunk 1 (jumps JMP 0 0 2 ∷ return ∷ [])) judged (10 ∷ 0 ∷ 0 ∷ []) ∷
    -- P4: 'EQ 0 0 0, JMP 0, RETURN: `3 8 1 9 8 1 0 1 0`'
    case equal_jump (statements 0 0) (3 ∷ 8 ∷ 1 ∷ 9 ∷ 8 ∷ 1 ∷ 0 ∷ 1 ∷ 0 ∷ []) ∷
    -- P5: 'block 1 goes Then to between 5, Else to 2; 5 goes to 1'
    case numeric_for (edges 0 1) (1 ∷ 5 ∷ 2 ∷ 2 ∷ []) ∷
    case numeric_for (edges 0 5) (0 ∷ 1 ∷ []) ∷
    -- P6: 'FORLOOP to the next word: Else skips the between'
    case loop_onward (edges 0 0) (1 ∷ 4 ∷ 2 ∷ 1 ∷ []) ∷
    case loop_onward (edges 0 4) (0 ∷ 1 ∷ []) ∷
    -- P7: 'skipping LOADBOOL at n − 2: 10'
    case (chunk 1 (abc LOADBOOL 0 0 1 ∷ return ∷ [])) judged (10 ∷ 0 ∷ 0 ∷ []) ∷
    -- P8: 'SETLIST C 511: index 25,501; C 0: 9'
    case (chunk 2 (abc SETLIST 0 1 511 ∷ return ∷ [])) (statements 0 0) (7 ∷ 0 ∷ 25501 ∷ 1 ∷ 1 ∷ 1 ∷ 0 ∷ 4 ∷ 0 ∷ []) ∷
    case (chunk 2 (abc SETLIST 0 1 0 ∷ return ∷ [])) judged (9 ∷ 0 ∷ 0 ∷ []) ∷
    -- P9: 'CALL 0 1 0, RETURN 0 0, RETURN 0 1: `4 1 10 1 0 0`; without its user, 12'
    case open_return (statements 0 0) (4 ∷ 1 ∷ 10 ∷ 1 ∷ 0 ∷ 0 ∷ []) ∷
    case (chunk 1 (abc CALL 0 1 0 ∷ return ∷ [])) judged (12 ∷ 0 ∷ 0 ∷ []) ∷
    -- P10: 'stack 250 stands, 251 is 7'. Its lengths are in Lengths
    case (chunk 250 (return ∷ [])) judged (1 ∷ []) ∷
    case (chunk 251 (return ∷ [])) judged (7 ∷ 0 ∷ 0 ∷ []) ∷ []

-- ------------------------------------------------------------ document 01's slips

unfoldable pub jump_over_listing : List ℕ
jump_over_listing =
    bytes "F      0      0      0      1\n"
    ++ bytes "B      0      0      1      0      0      0\n"
    ++ bytes "E      0      2\n"
    ++ bytes "B      1      1      2      0      0      0\n"
    ++ bytes "S      1      0      1      1      1      1      0      1      0\n"
    ++ bytes "E      0      2\n"
    ++ bytes "B      2      2      3      0      0      0\n"
    ++ bytes "S      2     30      4      0\n"
    ++ bytes "B      3      3      3      0      0      0\n"
    ++ bytes "B      4      3      3      1      0      0\n"
    ++ bytes "S      3     99      1      1      1      1      0      3\n"
    ++ bytes "E      0      0\n"

-- what both write of them with yes: register 0 gets nil; is register 0 equal to register 0? yes; return; end
unfoldable pub past_the_jump : List ℕ
past_the_jump = 1 ∷ 1 ∷ 1 ∷ 1 ∷ 1 ∷ 0 ∷ 3 ∷ 3 ∷ 9 ∷ 8 ∷ 1 ∷ 0 ∷ 1 ∷ 0 ∷ 5 ∷ 1 ∷ 1 ∷ 4 ∷ 0 ∷ 7 ∷ []

unfoldable pub slip_cases : List Case
slip_cases =
    -- 'leaving out the empty block at n': it stands between the last range and the entry
    case return_alone printed return_listing ∷
    -- 'leaving the entry's edge out of the count of entering edges': two edges enter block 0, so its loop has a between
    case loop_first (edges 0 0) (1 ∷ 4 ∷ 2 ∷ 1 ∷ []) ∷
    case loop_first (statements 0 4) (1 ∷ 1 ∷ 1 ∷ 1 ∷ 3 ∷ 1 ∷ 0 ∷ []) ∷
    -- 'taking the Then side for a yes when Not is shown': a yes leads past the jump
    case equal_jump (account_by_graph 0 (true ∷ [])) past_the_jump ∷
    case equal_jump (account_by_words 0 (true ∷ [])) past_the_jump ∷
    case equal_back (account_by_graph 0 (true ∷ [])) past_the_jump ∷
    case equal_back (account_by_words 0 (true ∷ [])) past_the_jump ∷
    -- 'numbering blocks as found': a jump over a word finds its target first
    case (chunk 1 (jumps JMP 0 0 2 ∷ abc MOVE 0 0 0 ∷ return ∷ [])) (listed 0) jump_over_listing ∷ []

-- ------------------------------------------------------------ three functions, two deep, of which none stands for another

unfoldable pub listing_0 : List ℕ
listing_0 =
    bytes "F      0      0      0      2\n"
    ++ bytes "K      0      3  32760   1541   1027    513\n"
    ++ bytes "B      0      0      3      0      0      0\n"
    ++ bytes "S      0     36      1      1      1      1      0     12      1      0\n"
    ++ bytes "S      1      1      1      1      1      1      1      2      0\n"
    ++ bytes "S      2     30      4      0\n"
    ++ bytes "B      1      3      3      0      0      0\n"
    ++ bytes "B      2      3      3      1      0      0\n"
    ++ bytes "S      3     99      1      1      1      1      0      3\n"
    ++ bytes "S      3     99      1      1      1      1      1      3\n"
    ++ bytes "E      0      0\n"

unfoldable pub listing_1 : List ℕ
listing_1 =
    bytes "F      1      2      0      3\n"
    ++ bytes "B      0      0      3      0      0      0\n"
    ++ bytes "S      0     36      1      1      1      1      2     12      2      1      1      1\n"
    ++ bytes "S      2     30      4      1      1      2\n"
    ++ bytes "B      1      3      3      0      0      0\n"
    ++ bytes "B      2      3      3      1      0      0\n"
    ++ bytes "S      3     99      1      1      1      1      2      3\n"
    ++ bytes "E      0      0\n"

unfoldable pub listing_2 : List ℕ
listing_2 =
    bytes "F      2      0      1      1\n"
    ++ bytes "B      0      0      2      0      0      0\n"
    ++ bytes "S      0      4      1      1      1      1      0      5      0\n"
    ++ bytes "S      1     30      4      1      1      0\n"
    ++ bytes "B      1      2      2      0      0      0\n"
    ++ bytes "B      2      2      2      1      0      0\n"
    ++ bytes "S      2     99      1      1      1      1      0      3\n"
    ++ bytes "E      0      0\n"

unfoldable pub nested_cases : List Case
nested_cases =
    case three_deep judged (3 ∷ []) ∷
    case three_deep (listed 0) listing_0 ∷
    case three_deep (listed 1) listing_1 ∷
    case three_deep (listed 2) listing_2 ∷
    case three_deep printed (listing_0 ++ listing_1 ++ listing_2) ∷
    -- a refused chunk prints its X line alone
    case (chunk 1 []) printed (bytes "X      8      0      0\n") ∷ []

-- ------------------------------------------------------------ the word behind a statement (document 02, 1)

-- TESTSET 0 0 1, JMP to 2, RETURN
unfoldable pub set_or_jump : List ℕ
set_or_jump = chunk 1 (abc TESTSET 0 0 1 ∷ jumps JMP 0 1 2 ∷ return ∷ [])

-- FORPREP to 2, MOVE 4 3, FORLOOP to 1, RETURN: only the loop leads to word 1
unfoldable pub loop_body : List ℕ
loop_body = chunk 5 (jumps FORPREP 0 0 2 ∷ abc MOVE 4 3 0 ∷ jumps FORLOOP 0 2 1 ∷ return ∷ [])

-- JMP to 1, TFORLOOP 0 1, JMP to 1, RETURN
unfoldable pub generic_for : List ℕ
generic_for = chunk 4 (jumps JMP 0 0 1 ∷ abc TFORLOOP 0 0 1 ∷ jumps JMP 0 2 1 ∷ return ∷ [])

unfoldable pub word_cases : List Case
word_cases =
    -- 'The assignment of a TESTSET, FORLOOP or TFORLOOP names that word, also where it stands in another block': at a front,
    -- and in a between block
    case set_or_jump (behind 0 1) (0 ∷ 27 ∷ []) ∷
    case generic_for (behind 0 2) (1 ∷ 33 ∷ []) ∷
    case numeric_for (behind 0 5) (1 ∷ 31 ∷ []) ∷
    -- 'behind an assignment put at a block's front the indexes never fall': at the front itself it may be higher
    case loop_body (behind 0 1) (2 ∷ 31 ∷ 1 ∷ 0 ∷ []) ∷
    -- several statements of one word
    case generic_for (behind 0 1) (1 ∷ 33 ∷ 1 ∷ 33 ∷ []) ∷
    case (chunk 2 (abc LOADNIL 0 1 0 ∷ return ∷ [])) (behind 0 0) (0 ∷ 3 ∷ 0 ∷ 3 ∷ 1 ∷ 30 ∷ []) ∷
    -- 'Entry statements carry n and 99.'
    case return_alone (behind 0 2) (1 ∷ 99 ∷ 1 ∷ 99 ∷ []) ∷
    -- 'A statement with an open tail names the user, not the opener.'
    case open_return (behind 0 0) (1 ∷ 30 ∷ []) ∷
    case (chunk 1 (abc TAILCALL 0 1 0 ∷ abc RETURN 0 0 0 ∷ return ∷ [])) (behind 0 0) (1 ∷ 30 ∷ []) ∷ []

-- ------------------------------------------------------------ source lines (document 02, 2)

-- the words of `numeric_for`, with lines
unfoldable pub lined_for : List ℕ
lined_for = lined_chunk 4 (jumps FORPREP 0 0 1 ∷ jumps FORLOOP 0 1 1 ∷ return ∷ []) (3 ∷ 5 ∷ 8 ∷ [])

-- MOVE three times, and RETURN, with lines
unfoldable pub lined_moves : List ℕ → List ℕ
lined_moves lines = lined_chunk 1 (abc MOVE 0 0 0 ∷ abc MOVE 0 0 0 ∷ abc MOVE 0 0 0 ∷ return ∷ []) lines

-- CLOSURE with the capture behind it, and RETURN, with lines; the function that it makes has a stack and lines
unfoldable pub lined_closure : List ℕ → ℕ → List ℕ → List ℕ
lined_closure lines stack inner =
    header
    ++ lined_bytes 0 0 0 1 (abx CLOSURE 0 0 ∷ abc MOVE 0 0 0 ∷ return ∷ []) [] (lined_bytes 1 0 0 stack (return ∷ []) [] [] inner ∷ []) lines

unfoldable pub line_cases : List Case
line_cases =
    -- 'the lowest and highest line of the block's words': neither is that of the first word or of the last
    case (lined_moves (5 ∷ 9 ∷ 2 ∷ 4 ∷ [])) (sources 0 0) (2 ∷ 9 ∷ []) ∷
    case lined_for (sources 0 0) (3 ∷ 3 ∷ []) ∷
    case lined_for (sources 0 1) (5 ∷ 5 ∷ []) ∷
    -- 'both are 0 for an empty range, entry, between, or a function without lines'
    case lined_for (sources 0 3) (0 ∷ 0 ∷ []) ∷
    case lined_for (sources 0 4) (0 ∷ 0 ∷ []) ∷
    case lined_for (sources 0 5) (0 ∷ 0 ∷ []) ∷
    case numeric_for (sources 0 1) (0 ∷ 0 ∷ []) ∷
    -- one function may have lines where another has none; the lines of captures count
    case (lined_closure [] 1 (7 ∷ [])) (sources 0 0) (0 ∷ 0 ∷ []) ∷
    case (lined_closure [] 1 (7 ∷ [])) (sources 1 0) (7 ∷ 7 ∷ []) ∷
    case (lined_closure (4 ∷ 6 ∷ 5 ∷ []) 1 []) (sources 0 0) (4 ∷ 6 ∷ []) ∷
    -- 15: 'a line above 999,999, read as unsigned; place its word'
    case (lined_moves (5 ∷ 999999 ∷ 0 ∷ 4 ∷ [])) judged (1 ∷ []) ∷
    case (lined_moves (5 ∷ 9 ∷ 1000000 ∷ 4 ∷ [])) judged (15 ∷ 0 ∷ 2 ∷ []) ∷
    case (lined_moves (5 ∷ 9 ∷ 2 ∷ 0xFFFFFFFF ∷ [])) judged (15 ∷ 0 ∷ 3 ∷ []) ∷
    case (lined_closure (4 ∷ 1000000 ∷ 4 ∷ []) 1 []) judged (15 ∷ 0 ∷ 1 ∷ []) ∷
    case (lined_closure (4 ∷ 4 ∷ 4 ∷ []) 1 (1000000 ∷ [])) judged (15 ∷ 1 ∷ 0 ∷ []) ∷
    -- 'tested after 12 to 14': 12 at a later word comes first; and in its function, before 7 of the next
    case (lined_chunk 1 (abc MOVE 0 0 0 ∷ abc CALL 0 1 0 ∷ return ∷ []) (1000000 ∷ 1 ∷ 1 ∷ [])) judged (12 ∷ 0 ∷ 1 ∷ []) ∷
    case (lined_closure (4 ∷ 4 ∷ 1000000 ∷ []) 251 []) judged (15 ∷ 0 ∷ 2 ∷ []) ∷
    case (lined_closure (4 ∷ 4 ∷ 4 ∷ []) 251 []) judged (7 ∷ 1 ∷ 0 ∷ []) ∷ []

-- ------------------------------------------------------------ house tables (document 02, 3)

-- In the chunks here words have the numbers of `rotated 1`: 31, Lua's FORLOOP, for RETURN, 24 for EQ and 23 for JMP.

-- RETURN 0 1
abbrev house_return : ℕ
house_return = abc FORLOOP 0 1 0

-- `return_alone`
unfoldable pub house_alone : List ℕ
house_alone = chunk 2 (house_return ∷ [])

-- `equal_jump`
unfoldable pub house_jump : List ℕ
house_jump = chunk 1 (abc LT 0 0 0 ∷ jumps EQ 0 1 2 ∷ house_return ∷ [])

-- a function with another in it, each with RETURN and nothing else
unfoldable pub house_nested : List ℕ
house_nested = header ++ function_bytes 0 0 0 2 (house_return ∷ []) [] (function_bytes 0 0 0 2 (house_return ∷ []) [] [] ∷ [])

-- an open reading at function 2 with another table
abbrev before_load : Reading
before_load = record { is_open = true; next = 2; table = rotated 5 }

unfoldable pub house_cases : List Case
house_cases =
    -- 'a chunk lists or is refused as the same chunk with its opcodes put back .. would under Lua's own'
    case house_alone (put_back (rotated 1)) return_alone ∷
    case house_alone (under (rotated 1) judged) (1 ∷ []) ∷
    case house_alone (under (rotated 1) (listed 0)) return_listing ∷
    case house_jump (put_back (rotated 1)) equal_jump ∷
    case house_jump (under (rotated 1) (statements 0 0)) (3 ∷ 8 ∷ 1 ∷ 9 ∷ 8 ∷ 1 ∷ 0 ∷ 1 ∷ 0 ∷ []) ∷
    case house_nested (under (rotated 1) judged) (2 ∷ []) ∷
    case return_alone (under (rotated 1) judged) (8 ∷ 0 ∷ 0 ∷ []) ∷
    -- the opcode behind a statement is Lua's
    case house_jump (under (rotated 1) (behind 0 0)) (0 ∷ 23 ∷ []) ∷
    -- 'the followed words are the words put back'
    case house_jump (under (rotated 1) (account_by_graph 0 (true ∷ []))) past_the_jump ∷
    case house_jump (under (rotated 1) (account_by_words 0 (true ∷ []))) past_the_jump ∷
    -- 'Before any load the table is Lua's own.'
    case house_alone judged (8 ∷ 0 ∷ 0 ∷ []) ∷
    case return_alone (opening_leaves closed) (1 ∷ 0 ∷ lua) ∷
    -- the table in the other direction is `rotated 37`
    case house_alone (under (rotated 37) judged) (8 ∷ 0 ∷ 0 ∷ []) ∷
    -- 'those above 37 stay'
    case (chunk 1 (38 ∷ house_return ∷ [])) (under (rotated 1) judged) (9 ∷ 0 ∷ 0 ∷ []) ∷
    case (chunk 1 (63 ∷ house_return ∷ [])) (under (rotated 1) judged) (9 ∷ 0 ∷ 0 ∷ []) ∷
    case (chunk 1 (38 ∷ [])) (under (rotated 1) judged) (8 ∷ 0 ∷ 0 ∷ []) ∷
    case (chunk 1 (38 ∷ 63 ∷ [])) (put_back (rotated 1)) (chunk 1 (38 ∷ 63 ∷ [])) ∷
    -- 'an opening, refused or not, keeps it'
    case house_alone (opening_leaves (closed_with (rotated 1))) (1 ∷ 0 ∷ rotated 1) ∷
    case house_alone (opening_leaves before_load) (0 ∷ 0 ∷ rotated 5) ∷
    -- a table that was not loaded: of two lines with one number the first counts, and a number that no line has is no opcode's
    case house_alone (under (take 30 lua ++ (31 ∷ drop 31 lua)) judged) (1 ∷ []) ∷
    case return_alone (under (take 30 lua ++ (31 ∷ drop 31 lua)) judged) (8 ∷ 0 ∷ 0 ∷ []) ∷
    case (chunk 2 (return ∷ house_return ∷ [])) (under (take 30 lua ++ (31 ∷ drop 31 lua)) judged) (9 ∷ 0 ∷ 0 ∷ []) ∷ []

abbrev tab : ℕ
tab = 9

abbrev carriage_return : ℕ
carriage_return = 13

-- '38 lines, each a number in 7 columns, as a listing prints it, and a line feed': those of `rotated 1`
unfoldable pub house_lines : List ℕ
house_lines =
    bytes "      1\n      2\n      3\n      4\n      5\n      6\n      7\n      8\n      9\n     10\n"
    ++ bytes "     11\n     12\n     13\n     14\n     15\n     16\n     17\n     18\n     19\n     20\n"
    ++ bytes "     21\n     22\n     23\n     24\n     25\n     26\n     27\n     28\n     29\n     30\n"
    ++ bytes "     31\n     32\n     33\n     34\n     35\n     36\n     37\n      0\n"

-- the same with other bytes in place of the line at position i and, where they are longer, of those behind it
unfoldable pub with_line : ℕ → List ℕ → List ℕ
with_line i others = take (8 * i) house_lines ++ others ++ drop (8 * i + length others) house_lines

unfoldable pub load_cases : List Case
load_cases =
    case house_lines load (0 ∷ []) ∷
    -- 'The line at position i, from 0, gives the number that files use for Lua's opcode i.' 'no load moves the reading'
    case house_lines (load_leaves closed) (0 ∷ 0 ∷ rotated 1) ∷
    case house_lines (load_leaves before_load) (1 ∷ 2 ∷ rotated 1) ∷
    -- 'A refused load keeps the former table'
    case (with_line 37 (bytes "     38\n")) (load_leaves before_load) (1 ∷ 2 ∷ rotated 5) ∷
    -- 34: '0 for a wrong length', whatever the lines are
    case [] load (34 ∷ 0 ∷ 0 ∷ []) ∷
    case (take 303 house_lines) load (34 ∷ 0 ∷ 0 ∷ []) ∷
    case (house_lines ++ bytes "\n") load (34 ∷ 0 ∷ 0 ∷ []) ∷
    case (with_line 5 (bytes "0000006\n") ++ bytes "\n") load (34 ∷ 0 ∷ 0 ∷ []) ∷
    -- 34: 'the bytes loaded have another form', 'place the first offending line's position': zeros in front, a sign, a tab, a blank behind,
    -- a carriage return, no digit, a letter
    case (with_line 0 (bytes "0000001\n")) load (34 ∷ 0 ∷ 0 ∷ []) ∷
    case (with_line 37 (bytes "     00\n")) load (34 ∷ 0 ∷ 37 ∷ []) ∷
    case (with_line 1 (bytes "     +2\n")) load (34 ∷ 0 ∷ 1 ∷ []) ∷
    case (with_line 2 (tab ∷ bytes "     3\n")) load (34 ∷ 0 ∷ 2 ∷ []) ∷
    case (with_line 18 (bytes "    19 \n")) load (34 ∷ 0 ∷ 18 ∷ []) ∷
    case (with_line 19 (bytes "     20" ++ (carriage_return ∷ []))) load (34 ∷ 0 ∷ 19 ∷ []) ∷
    case (with_line 36 (bytes "       \n")) load (34 ∷ 0 ∷ 36 ∷ []) ∷
    case (with_line 37 (bytes "      o\n")) load (34 ∷ 0 ∷ 37 ∷ []) ∷
    -- a line feed one byte early
    case (with_line 20 (bytes "    21\n      22\n")) load (34 ∷ 0 ∷ 20 ∷ []) ∷
    -- 35: 'a number above 37'
    case (with_line 0 (bytes "     38\n")) load (35 ∷ 0 ∷ 0 ∷ []) ∷
    case (with_line 18 (bytes "9999999\n")) load (35 ∷ 0 ∷ 18 ∷ []) ∷
    case (with_line 37 (bytes "     38\n")) load (35 ∷ 0 ∷ 37 ∷ []) ∷
    -- 35: 'or a repeated one', 'the later of two equal numbers'
    case (with_line 1 (bytes "      1\n")) load (35 ∷ 0 ∷ 1 ∷ []) ∷
    case (with_line 20 (bytes "      4\n")) load (35 ∷ 0 ∷ 20 ∷ []) ∷
    case (with_line 2 (bytes "      0\n")) load (35 ∷ 0 ∷ 37 ∷ []) ∷
    -- of two equal numbers above 37 the earlier offends already
    case (with_line 5 (bytes "     40\n     40\n")) load (35 ∷ 0 ∷ 5 ∷ []) ∷
    -- 'then 35': 34 at the last line comes before 35 at the first
    case (take 296 (with_line 0 (bytes "     38\n")) ++ bytes "     0x\n") load (34 ∷ 0 ∷ 37 ∷ []) ∷ []

-- ------------------------------------------------------------ all

unfoldable pub cases : List Case
cases = proved_cases ++ slip_cases ++ nested_cases ++ word_cases ++ line_cases ++ house_cases ++ load_cases
