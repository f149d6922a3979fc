-- `instruction::flow_of`: an opcode of no arm goes straight on. Assumes nothing.
use mathlib.Core.Path.{sym}
use Rattle.std.proofs.Common.{rules}
use Rattle.lua51_instruction.proofs.Table.{straight_on}
use Rattle.lua51_instruction.proofs.instruction.flow_of.Goals as goal

pub returns-in_default : goal.returns-in_default
returns-in_default c = sym (straight_on c.args.opcode (search rules))
