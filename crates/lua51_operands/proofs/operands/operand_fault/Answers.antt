-- `operands::operand_fault`: the opcode and the three operands. Assumes nothing.
use Rattle.lua51_lifter.specs.Check.{operand_fault}
use Rattle.lua51_operands.proofs.operands.operand_fault.Goals as goal

pub returns : goal.returns
unfolding operand_fault
returns c = λ p i ws us s d.
    let f = d.fields in
    cc (c.operand_fits.ensures p i ws us s f, c.operand_fits-2.ensures p i ws us s f, c.operand_fits-3.ensures p i ws us s f)
