-- `function::place_in`: the table below its count, and nothing behind it. Assumes nothing.
use Rattle.std.proofs.Common.{sym, arith}
use Rattle.lua51_function.proofs.Buffers.{held_at, held_none}
use Rattle.lua51_function.proofs.function.place_in.Goals as goal

pub returns-then-held_count-number : goal.returns-then-held_count-number
returns-then-held_count-number c = let a = c.args in sym (held_none a.functions.now a.f (omega arith))

pub returns : goal.returns
returns c = let a = c.args in sym (held_at a.functions.now a.f (omega arith))
