-- `instruction::decode`: the fields, and the row of their opcode. Assumes nothing.
use Rattle.lua51_instruction.proofs.instruction.decode.Goals as goal

pub returns : goal.returns
returns c =
    let fields = c.fields_of-fields.ensures in
    record { fields = fields; row = rw fields.opcode at c.row_of-row.ensures }
