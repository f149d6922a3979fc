-- The statements of a word that is no capture, and the line of a statement that was written into a buffer.
use Rattle.std.specs.Prelude.{ℕ, List, ◌∷◌, take}
use Rattle.lines.specs.Line.{line, letter_s}
use Rattle.lua51_instruction.specs.Proto.{Proto, op_at}
use Rattle.ast.specs.Statement.{Stmt, run}
use Rattle.lua51_lifter.specs.Lift.{statements_by}
use Rattle.lua51_lifter.specs.Blocks.{Named}

-- the statements of word i, where it is no capture
abbrev pub own_statements : Proto → ℕ → List Stmt
own_statements p i = statements_by p i (op_at p i)

-- the line of a statement, of which a buffer holds so many numbers
unfoldable pub line_within : ℕ → Named → List ℕ
line_within room s = line letter_s (s.word ∷ s.opcode ∷ take room (run s.says))
