-- All cases of the table hold: one computed test over each list, and a law that turns the test into the claim.
-- Assumes nothing.
use Prim.Native.Nat.{ℕ}
use mathlib.Core.Bool.{Bool, true, false, ◌&&◌, false≢true}
use mathlib.Core.Path.{◌≡◌, refl}
use mathlib.Core.List.{List, [], ◌∷◌, flat_map, flatten}
use lib.Dec.{eqb}
use borrow.Author.Tests.{eqb-true}
use Rattle.basics.proofs.Tests.{and_left, and_right}
use Rattle.lines.specs.Line.{digits, decimal, column, line}
use Rattle.basics.specs.Range.{over, sum, times}
use Rattle.lua51_instruction.specs.Word.{op_of, row, row_of}
use Rattle.lua51_deserializer.specs.Chunk.{again, field, limited, counted, body, string, present, constant_of}
use Rattle.lua51_value.specs.Bytes.{int_at}
use Rattle.lua51_deserializer.specs.Chunk.{constant, head, code, constants, lines, locals, names, many, begin, nest}
use Rattle.lua51_deserializer.specs.Chunk.{finish, function, exactly, signature, ends, walk, ints}
use Rattle.lua51_value.specs.Value.{kind_of, value_at}
use Rattle.lua51_deserializer.specs.Chunk.{values_at, nested_in, constants_at, proto_at}
use Rattle.ast.specs.Statement.{count, expr, exprs, tail_numbers, run, registers}
use Rattle.cfg.specs.Graph.{claims, leader, block_of, leader_from, past, leaving, exits, entering, is_loop, then_of}
use Rattle.cfg.specs.Graph.{diverted, between_of}
use Rattle.lua51_instruction.specs.Jump.{target_of}
use Rattle.lua51_lifter.specs.Check.{first_refusal, head_fault, last_fault, operand, operand_fault, lands_inside, tests}
use Rattle.lua51_lifter.specs.Check.{word_verdict, opener, user, slot, matches, unused_results, missing_results}
use Rattle.lua51_lifter.specs.Check.{all_captures, reaches, reached, use_verdict, line_verdict, check}
use Rattle.lua51_lifter.specs.Lift.{rk, condition, concatenated, captures, taken, open_results, statements_by, pending}
use Rattle.lua51_lifter.specs.Lift.{statements, on_then}
use Rattle.lua51_lifter.specs.Blocks.{leads, edges_of, entry_nils, stated, brought, front, code_block, entry_block, between_block}
use Rattle.lua51_lifter.specs.Blocks.{blocks, naming, graph}
use Rattle.lua51_lifter.specs.SourceLines.{lines_of, lowest, highest}
use Rattle.lua51_lifter.specs.Listing.{value, constant_items, block_items, all_block_items, function_items, named_numbers}
use Rattle.lua51_lifter.specs.Listing.{source_lines, items, listing}
use Rattle.lua51_lifter.specs.WordBehind.{compared_items}
use Rattle.lua51_instruction.specs.Proto.{reworded}
use Rattle.house_table.specs.House.{position_of, opcode_back, word_back}
use Rattle.house_chunk.specs.PutBack.{code_back, function_back, functions_back, read_back, chunk_back}
use Rattle.lines.specs.Numeral.{digits_say, column_says, line_says}
use Rattle.house_loading.specs.Loading.{form_verdict, number_verdict, load_verdict}
use Rattle.judging.specs.Judge.{judge_from, judge_read, judge, listing_of}
use Rattle.reading.specs.Reading.{opened_by, opening}
use Rattle.reading.specs.Loading.{loaded_by, loading}
use Rattle.reading.specs.Program.{listings, pieces_for, pieces_by}
use Rattle.follow.specs.Account.{onward, account}
use Rattle.follow.specs.GraphFollower.{fold, folds, marked, marks, opens_of, opens_in, inside, outside, insides, outsides}
use Rattle.follow.specs.GraphFollower.{tail_opens, tail_marked, actions, bare, ending_of, ending, answered, next_block}
use Rattle.follow.specs.GraphFollower.{graph_step, entry_from, by_blocks, by_graph}
use Rattle.follow.specs.WordFollower.{named, rk_operand, jumped, upward, slots, nils, strung, are_captures, captures_from}
use Rattle.follow.specs.WordFollower.{takes_open, first_slot, taken_up, kept, takes, testing, doing, word_step_from}
use Rattle.follow.specs.WordFollower.{word_step, by_words}
use Rattle.lines.specs.Text.{bytes}
use Rattle.cases.specs.Make.{int, lined_bytes, function_bytes, chunk, lined_chunk, rotated}
use Rattle.cases.specs.Cases.{answer_numbers, event_numbers, open_number, reading_numbers, told_by, told, Case, AllHold}
use Rattle.cases.specs.Table.{return_alone, return_compared, return_listing, equal_jump, equal_back, numeric_for}
use Rattle.cases.specs.Table.{loop_onward, loop_first, open_return, three_deep, proved_cases, jump_over_listing}
use Rattle.cases.specs.Table.{past_the_jump, slip_cases, listing_0, listing_1, listing_2, nested_cases, set_or_jump}
use Rattle.cases.specs.Table.{loop_body, generic_for, word_cases, lined_for, lined_moves, lined_closure, line_cases}
use Rattle.cases.specs.Table.{house_alone, house_jump, house_nested, house_cases, house_lines, with_line, load_cases, cases}

-- ------------------------------------------------------------ the test

-- two lists of numbers are the same
abbrev same : List ℕ → List ℕ → Bool
same [] [] = true
same [] (y ∷ ys) = false
same (x ∷ xs) [] = false
same (x ∷ xs) (y ∷ ys) = eqb x y && same xs ys

same_is : (xs ys : List ℕ) → same xs ys ≡ true → xs ≡ ys
same_is [] [] h = refl
same_is [] (y ∷ ys) h = absurd (false≢true h)
same_is (x ∷ xs) [] h = absurd (false≢true h)
same_is (x ∷ xs) (y ∷ ys) h = λ i. eqb-true x y (and_left (eqb x y) (same xs ys) h) i ∷ same_is xs ys (and_right (eqb x y) (same xs ys) h) i

-- every case of a list comes out as expected
abbrev as_expected : List Case → Bool
as_expected [] = true
as_expected (c ∷ cs) = same (told c.chunk c.asked) c.expected && as_expected cs

hold : (cs : List Case) → as_expected cs ≡ true → AllHold cs
hold [] h = tt
hold (c ∷ cs) h =
    let mine : Bool = same (told c.chunk c.asked) c.expected in
    (same_is (told c.chunk c.asked) c.expected (and_left mine (as_expected cs) h), hold cs (and_right mine (as_expected cs) h))

-- ------------------------------------------------------------ the theorem

pub all_hold : AllHold cases
unfolding target_of flat_map flatten digits decimal column line over sum times op_of row row_of again int_at field limited counted body
    string present constant_of constant head code constants lines locals names many begin nest finish function
    exactly signature ends walk kind_of ints value_at values_at nested_in constants_at proto_at count expr exprs tail_numbers run
    registers claims leader block_of leader_from past leaving exits entering is_loop then_of diverted between_of first_refusal
    head_fault last_fault operand operand_fault lands_inside tests word_verdict opener user slot matches unused_results
    missing_results all_captures reaches reached use_verdict line_verdict check rk condition concatenated captures taken open_results
    statements_by pending statements on_then leads edges_of entry_nils stated brought front code_block entry_block
    between_block blocks naming graph value constant_items block_items all_block_items function_items named_numbers lines_of lowest
    highest source_lines items listing judge_from judge_read judge listing_of reworded position_of opcode_back word_back code_back function_back
    functions_back read_back chunk_back digits_say column_says line_says form_verdict number_verdict load_verdict opened_by opening loaded_by loading
    listings pieces_for pieces_by onward account fold folds marked marks
    opens_of opens_in inside outside insides outsides tail_opens tail_marked actions bare ending_of ending answered
    next_block graph_step entry_from by_blocks by_graph named rk_operand jumped upward slots nils strung are_captures captures_from
    takes_open first_slot taken_up kept takes testing doing word_step_from word_step by_words int lined_bytes function_bytes
    chunk lined_chunk rotated bytes
    answer_numbers event_numbers open_number reading_numbers compared_items told_by told return_alone return_compared return_listing equal_jump
    equal_back numeric_for loop_onward loop_first open_return three_deep proved_cases jump_over_listing past_the_jump
    slip_cases listing_0 listing_1 listing_2 nested_cases set_or_jump loop_body generic_for word_cases lined_for
    lined_moves lined_closure line_cases house_alone house_jump house_nested house_cases house_lines with_line load_cases cases
all_hold = hold cases refl
