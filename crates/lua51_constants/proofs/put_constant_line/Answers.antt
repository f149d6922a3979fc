-- `put_constant_line`: letter, index, what is read at the place, end. Assumes nothing.
use Rattle.lua51_constants.proofs.ConstantLines.{constant_printed}
use Rattle.lua51_constants.proofs.put_constant_line.Goals as goal

pub returns : goal.returns
returns c =
    let a = c.args in
    constant_printed a.s.now a.index a.place c.constant_at.result c.put_byte.ensures c.put_number.ensures c.constant_at.ensures
    c.put_value.ensures c.put_end.ensures
