-- A decoded word, and what the code's table stands for (document 01, under instruction/argument.rs and
-- instruction/mod.rs).
use Rattle.std.specs.Prelude.{ℕ, ◌≡◌}
use Rattle.lua51_instruction.specs.Word.{unused, register, either, upvalue, flag, constant, global, nested}
use Rattle.lua51_instruction.specs.Word.{offset, pair, quartet, last_from_a, last_from_b, arguments, values}
use Rattle.lua51_instruction.specs.Word.{varargs, elements, variables, block_number}
use Rattle.lua51_instruction.specs.Word.{straight, skip, jump, test, test_set, loop_entry, numeric_loop}
use Rattle.lua51_instruction.specs.Word.{generic_loop, exit}
use Rattle.lua51_instruction.specs.Word.{row_of, field_opcode, field_a, field_b, field_c, field_bx}
use Rattle.lua51_instruction.specs.Word as word
use Rattle.lua51_instruction.specs.declared.instruction.Kind.{Kind}
use Rattle.lua51_instruction.specs.declared.instruction.Kind.TheVariants.{Unused, Register, Either, Upvalue}
use Rattle.lua51_instruction.specs.declared.instruction.Kind.TheVariants.{Flag, Constant, Global, Nested}
use Rattle.lua51_instruction.specs.declared.instruction.Kind.TheVariants.{Offset, Pair, Quartet, LastFromA}
use Rattle.lua51_instruction.specs.declared.instruction.Kind.TheVariants.{LastFromB, Arguments, Values, Varargs}
use Rattle.lua51_instruction.specs.declared.instruction.Kind.TheVariants.{Elements, Variables, BlockNumber}
use Rattle.lua51_instruction.specs.declared.instruction.Flow.{Flow}
use Rattle.lua51_instruction.specs.declared.instruction.Flow.TheVariants.{Straight, Skip, Jump, Test, TestSet}
use Rattle.lua51_instruction.specs.declared.instruction.Flow.TheVariants.{LoopEntry, NumericLoop, GenericLoop}
use Rattle.lua51_instruction.specs.declared.instruction.Flow.TheVariants.{Exit}
use Rattle.lua51_instruction.specs.declared.instruction.Row.{Row}
use Rattle.lua51_instruction.specs.declared.instruction.Fields.{Fields}
use Rattle.lua51_instruction.specs.declared.instruction.Instruction.{Instruction}

-- ------------------------------------------------------------ the table

-- the kind of operand that each of the code's stands for
abbrev pub kind_meant : Kind → word.Kind
kind_meant Unused = unused
kind_meant Register = register
kind_meant Either = either
kind_meant Upvalue = upvalue
kind_meant Flag = flag
kind_meant Constant = constant
kind_meant Global = global
kind_meant Nested = nested
kind_meant Offset = offset
kind_meant Pair = pair
kind_meant Quartet = quartet
kind_meant LastFromA = last_from_a
kind_meant LastFromB = last_from_b
kind_meant Arguments = arguments
kind_meant Values = values
kind_meant Varargs = varargs
kind_meant Elements = elements
kind_meant Variables = variables
kind_meant BlockNumber = block_number

-- the kind of flow that each of the code's stands for
abbrev pub flow_meant : Flow → word.Flow
flow_meant Straight = straight
flow_meant Skip = skip
flow_meant Jump = jump
flow_meant Test = test
flow_meant TestSet = test_set
flow_meant LoopEntry = loop_entry
flow_meant NumericLoop = numeric_loop
flow_meant GenericLoop = generic_loop
flow_meant Exit = exit

-- r stands for the kinds of a row
pub record Means (row : word.Row) (r : Row) : Type 0 where
  pub a : kind_meant r.a ≡ row.a
  pub b : kind_meant r.b ≡ row.b
  pub c : kind_meant r.c ≡ row.c

-- ------------------------------------------------------------ instructions

-- r has the fields of word w: 'Bits from the lowest: opcode 6, A 8, C 9, B 9; Bx is the upper 18'
pub record FieldsOf (w : ℕ) (r : Fields) : Type 0 where
  pub opcode : r.opcode ≡ field_opcode w
  pub a : r.a ≡ field_a w
  pub b : r.b ≡ field_b w
  pub c : r.c ≡ field_c w
  pub bx : r.bx ≡ field_bx w

-- r is word w decoded: its fields, and the opcode's row
pub record Decodes (w : ℕ) (r : Instruction) : Type 0 where
  pub fields : FieldsOf w r.fields
  pub row : Means (row_of (field_opcode w)) r.row
